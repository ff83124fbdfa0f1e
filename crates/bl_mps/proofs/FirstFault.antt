-- The fault that is told is the first, and a problem is the meaning of what the lines up to the
-- ENDATA line say.
use Rattle.std.proofs.Common.{◌≡◌, ◌⊎◌, inl, inr, ⊎_elim, ℕ, Result, Ok, Err, refl, sym, ap, ◌∙◌}
use Rattle.bl_text.specs.Pieces.{lines_of}
use Rattle.bl_problem.specs.Program.{Program}
use Rattle.bl_cards.specs.declared.kind.What.{What}
use Rattle.bl_cards.specs.declared.reader.Whole.{Whole}
use Rattle.bl_cards.specs.Said.{Said, nothing_said, ◌>>=◌}
use Rattle.bl_cards.specs.Reading.{Fault, at_line, said_in}
use Rattle.bl_cards.specs.Laws.{LineBreaks, EndIsMissing, TellsEnds, TellsFirstLine, TellsLines}
use Rattle.bl_mps.specs.Meaning.{finished}
use Rattle.bl_mps.specs.Reading.{read_of}
use Rattle.bl_mps.specs.Laws.{IsFirstFault, WholeBreaks, Means, TellsFirstFault, TellsMeaning}
use Rattle.bl_mps.specs.Laws.{IsOne}

abbrev fault_at : ℕ → What → Fault
fault_at n w = record { line = n; what = w }

abbrev whole : Said → ℕ → Whole
whole s n = record { said = s; last = n }

broken_by : (n : ℕ) (r : Result Program What) (f : Fault) → at_line n r ≡ Err f → (n ≡ f.line)
    × (r ≡ Err f.what)
broken_by n (Ok p) f e = absurd cc
broken_by n (Err w) f e = let is : fault_at n w ≡ f =
    cc in (ap (λ (x : Fault). x.line) is, ap (λ (x : Fault). Err x.what) is)

meant_by : (n : ℕ) (r : Result Program What) (p : Program) → at_line n r ≡ Ok p → r ≡ Ok p
meant_by n (Ok q) p e = cc
meant_by n (Err w) p e = absurd cc

pub tells_first_fault : TellsFirstLine → TellsEnds → TellsFirstFault
unfolding read_of
tells_first_fault first ended bytes f = (
  by (said_in bytes) refl,
  λ k. elim k [
    | inl b ↦ told (inl b)
    | inr more ↦ elim more [
      | inl m ↦ told (inr m)
      | inr w ↦ refused w
    ]
  ],
)
  where
    by : (r : Result Whole Fault) → said_in bytes ≡ r
        → (r >>= λ w. at_line w.last (finished w.said)) ≡ Err f
        → IsFirstFault (lines_of bytes) f.line f.what
    by (Err g) e k =
        let is : g ≡ f = cc in
        ⊎_elim (λ a. inl a) (λ b. inr (inl b)) ((first bytes f).0 (e ∙ ap Err is))
    by (Ok w) e k =
        let b = broken_by w.last (finished w.said) f k in
        inr (inr (record { said = w.said; ends = rw (← b.0) ((ended bytes w).0 e); broken = b.1 }))

    refused : WholeBreaks nothing_said (lines_of bytes) f.line f.what
        → (said_in bytes >>= λ w. at_line w.last (finished w.said)) ≡ Err f
    refused w =
        let e : said_in bytes ≡ Ok (whole w.said f.line) =
        (ended bytes (whole w.said f.line)).1 w.ends in
        rw (e, w.broken) refl

    told : LineBreaks nothing_said (lines_of bytes) f.line f.what
        ⊎ EndIsMissing nothing_said (lines_of bytes) f.line f.what
        → (said_in bytes >>= λ w. at_line w.last (finished w.said)) ≡ Err f
    told k = rw ((first bytes f).1 k) refl

pub tells_meaning : TellsLines → TellsMeaning
unfolding read_of
tells_meaning said bytes p = (by (said_in bytes) refl, read)
  where
    by : (r : Result Whole Fault) → said_in bytes ≡ r
        → (r >>= λ w. at_line w.last (finished w.said)) ≡ Ok p
        → Means nothing_said (lines_of bytes) p
    by (Err g) e k = absurd cc
    by (Ok w) e k =
        let s = (said bytes w).0 e in
        record {
          said = w.said;
          line = w.last;
          ends = s.ends;
          sections = s.sections;
          named = s.named;
          given = s.given;
          asked = s.asked;
          meaning = meant_by w.last (finished w.said) p k;
        }

    read : Means nothing_said (lines_of bytes) p
        → (said_in bytes >>= λ w. at_line w.last (finished w.said)) ≡ Ok p
    read m =
        let e : said_in bytes ≡ Ok (whole m.said m.line) =
        (said bytes (whole m.said m.line)).1 (record {
          ends = m.ends;
          sections = m.sections;
          named = m.named;
          given = m.given;
          asked = m.asked;
        }) in
        rw (e, m.meaning) refl

pub is_one : IsOne
is_one bytes = (
  either (read_of bytes) refl,
  λ p f g h. let e : Ok p ≡ Err f =
      sym g ∙ h in absurd cc,
)
  where
    either : (r : Result Program Fault) → read_of bytes ≡ r
        → ((p : Program) × (read_of bytes ≡ Ok p)) ⊎ ((f : Fault) × (read_of bytes ≡ Err f))
    either (Ok p) e = inl (p, e)
    either (Err f) e = inr (f, e)
