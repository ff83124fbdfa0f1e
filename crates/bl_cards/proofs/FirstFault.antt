-- The fault that a line tells is the first, and what a file says is what the lines up to the
-- ENDATA line say.
use Rattle.std.proofs.Common.{◌≡◌, ◌⊎◌, inl, inr, ℕ, ◌+◌, Bool, true, false, List, [], ◌∷◌, ◌++◌}
use Rattle.std.proofs.Common.{length, Result, Ok, Err, refl, sym, ap, ◌∙◌, arith}
use Rattle.std.proofs.lemmas.List.{append-nil}
use Rattle.bl_text.specs.Pieces.{lines_of}
use Rattle.bl_cards.specs.declared.kind.What.{What}
use Rattle.bl_cards.specs.declared.kind.What.TheVariants as what
use Rattle.bl_cards.specs.Said.{Said, nothing_said, ◌>>=◌}
use Rattle.bl_cards.specs.declared.reader.Whole.{Whole}
use Rattle.bl_cards.specs.Reading.{Fault, is_end, at_line, after_line, said_from, said_in}
use Rattle.bl_cards.specs.Laws.{AreGood, LineBreaks, EndIsMissing, Ends, IsSaidByLines}
use Rattle.bl_cards.specs.Laws.{TellsFirstLine, TellsEnds, TellsLines}
use Rattle.bl_cards.proofs.Walks.{whole, fault_at, said_done, said_open, said_step}
use Rattle.bl_cards.proofs.SectionLaw.{read_by_sections}
use Rattle.bl_cards.proofs.ColumnLaw.{named_by_lines}
use Rattle.bl_cards.proofs.SetLaw.{given_by_lines}
use Rattle.bl_cards.proofs.SenseLaw.{asked_by_lines}

-- the line is n lines behind the start
abbrev Told : ℕ → Said → List (List ℕ) → ℕ → What → Type 0
Told n s lines line w = (k : ℕ) × (line ≡ n + k)
    × (LineBreaks s lines k w ⊎ EndIsMissing s lines k w)

later : (n : ℕ) (s t : Said) (here : List ℕ) (lines : List (List ℕ)) (line : ℕ) (w : What)
    → is_end s.section ≡ false → after_line s here ≡ Ok t → Told (n + 1) t lines line w
    → Told n s (here ∷ lines) line w
later n s t here lines line w o e told = (
  told.0 + 1,
  omega (arith, told.1),
  elim told.2 [
    | inl f ↦ inl (record {
      before = here ∷ f.before;
      here = f.here;
      after = f.after;
      said = f.said;
      parts = ap (λ (ls : List (List ℕ)). here ∷ ls) f.parts;
      good = (t, o, e, f.good);
      open_still = f.open_still;
      broken = f.broken;
      number = omega (arith, f.number);
    })
    | inr m ↦ inr (record {
      said = m.said;
      good = (t, o, e, m.good);
      open_still =
          m.open_still;
      what_is = m.what_is;
      number = omega (arith, m.number);
    })
  ],
)

tells : (n : ℕ) (s : Said) (here : List ℕ) (lines : List (List ℕ)) (line : ℕ) (w : What)
    (r : Result Said What) → is_end s.section ≡ false → after_line s here ≡ r
    → ((t : Said) → said_from (n + 1) t lines ≡ Err (fault_at line w)
    → Told (n + 1) t lines line w) → (at_line (n + 1) r >>= λ t. said_from (n + 1) t lines)
    ≡ Err (fault_at line w) → Told n s (here ∷ lines) line w
tells n s here lines line w (Ok t) o e ih h = later n s t here lines line w o e (ih t h)
tells n s here lines line w (Err v) o e ih h =
    let f : fault_at (n + 1) v ≡ fault_at line w = cc in (
      1,
      sym (ap (λ (x : Fault). x.line) f),
      inl (record {
        before = [];
        here = here;
        after =
            lines;
        said = s;
        parts = refl;
        good = refl;
        open_still = o;
        broken =
            e ∙ ap (λ (x : Fault). Err x.what) f;
        number = omega arith;
      }),
    )

ended : {A : Type 0} (n : ℕ) (s : Said) (lines : List (List ℕ)) (f : Fault) → is_end s.section
    ≡ true → said_from n s lines ≡ Err f → A
ended n s lines f e h = let d = said_done n s lines e in absurd cc

told : (n : ℕ) (s : Said) (lines : List (List ℕ)) (line : ℕ) (w : What) → said_from n s lines
    ≡ Err (fault_at line w) → Told n s lines line w
told n s [] line w h = nil (is_end s.section) refl where
  nil : (t : Bool) → is_end s.section ≡ t → Told n s [] line w
  nil true e = ended n s [] (fault_at line w) e h
  nil false e =
      let f : fault_at (n + 1) what.NoEnd ≡ fault_at line w = let d = said_open n s e in cc in (
        1,
        sym (ap (λ (x : Fault). x.line) f),
        inr
            (record {
              said = s;
              good = refl;
              open_still = e;
              what_is =
                  sym (ap (λ (x : Fault). x.what) f);
              number = omega arith;
            }),
      )
told n s (here ∷ lines) line w h = more (is_end s.section) refl (λ t. told (n + 1) t lines line w)
  where
    more : (t : Bool) → is_end s.section ≡ t → ((u : Said) → said_from (n + 1) u lines
        ≡ Err (fault_at line w) → Told (n + 1) u lines line w) → Told n s (here ∷ lines) line w
    more true e ih = ended n s (here ∷ lines) (fault_at line w) e h
    more false e ih = tells n s here lines line w (after_line s here) e refl ih
        (sym (said_step n s here lines (after_line s here) e refl) ∙ h)

-- ---- the ENDATA line

abbrev Done : ℕ → Said → List (List ℕ) → ℕ → Said → Type 0
Done n s lines line said = (k : ℕ) × (line ≡ n + k) × Ends s lines k said

goes : (n : ℕ) (s : Said) (here : List ℕ) (lines : List (List ℕ)) (line : ℕ) (said : Said)
    (r : Result Said What) → is_end s.section ≡ false → after_line s here ≡ r
    → ((t : Said) → said_from (n + 1) t lines ≡ Ok (whole said line)
    → Done (n + 1) t lines line said) → (at_line (n + 1) r >>= λ t. said_from (n + 1) t lines)
    ≡ Ok (whole said line) → Done n s (here ∷ lines) line said
goes n s here lines line said (Err v) o e ih h = absurd cc
goes n s here lines line said (Ok t) o e ih h =
    let d = ih t h in
    let f = d.2 in (
      d.0 + 1,
      omega (arith, d.1),
      record {
        taken = here ∷ f.taken;
        after = f.after;
        parts = ap (λ (ls : List (List ℕ)). here ∷ ls) f.parts;
        good = (t, o, e, f.good);
        is_done = f.is_done;
        number = omega (arith, f.number);
      },
    )

stop : (n : ℕ) (s : Said) (lines : List (List ℕ)) (line : ℕ) (said : Said) → is_end s.section
    ≡ true → said_from n s lines ≡ Ok (whole said line) → Done n s lines line said
stop n s lines line said e h =
    let d = said_done n s lines e in
    let is : whole s n ≡ whole said line = cc in
    let same = ap (λ (x : Whole). x.said) is in (
      0,
      let l = ap (λ (x : Whole). x.last) is in omega (arith, l),
      record {
        taken = [];
        after = lines;
        parts = refl;
        good = same;
        is_done = rw same at e;
        number = refl;
      },
    )

done : (n : ℕ) (s : Said) (lines : List (List ℕ)) (line : ℕ) (said : Said) → said_from n s lines
    ≡ Ok (whole said line) → Done n s lines line said
done n s [] line said h = by (is_end s.section) refl where
  by : (t : Bool) → is_end s.section ≡ t → Done n s [] line said
  by true e = stop n s [] line said e h
  by false e = let d = said_open n s e in absurd cc
done n s (here ∷ lines) line said h =
    by (is_end s.section) refl (λ t. done (n + 1) t lines line said) where
      by : (t : Bool) → is_end s.section ≡ t → ((u : Said) → said_from (n + 1) u lines
          ≡ Ok (whole said line) → Done (n + 1) u lines line said) → Done n s (here ∷ lines) line said
      by true e ih = stop n s (here ∷ lines) line said e h
      by false e ih = goes n s here lines line said (after_line s here) e refl ih
          (sym (said_step n s here lines (after_line s here) e refl) ∙ h)

-- ---- the other way round

-- lines that break no rule are read one after another
read_on : (n : ℕ) (s t : Said) (lines rest : List (List ℕ)) → AreGood s lines t
    → said_from n s (lines ++ rest) ≡ said_from (n + length lines) t rest
read_on n s t [] rest g = let e : n + 0 ≡ n = omega arith in rw (e, g) refl
read_on n s t (line ∷ lines) rest g =
    said_step n s line (lines ++ rest) (Ok g.0) g.1 g.2 ∙ read_on (n + 1) g.0 t lines rest g.3
    ∙ ap (λ (k : ℕ). said_from k t rest) (omega arith)

broken : (n : ℕ) (s : Said) (lines : List (List ℕ)) (line : ℕ) (w : What)
    → LineBreaks s lines line w → said_from n s lines ≡ Err (fault_at (n + line) w)
broken n s lines line w b =
    ap (λ (ls : List (List ℕ)). said_from n s ls) b.parts
    ∙ read_on n s b.said b.before (b.here ∷ b.after) b.good
    ∙ said_step (n + length b.before) b.said b.here b.after (Err w) b.open_still b.broken
    ∙ ap (λ (k : ℕ). Err (fault_at k w)) (omega (arith, b.number))

missing : (n : ℕ) (s : Said) (lines : List (List ℕ)) (line : ℕ) (w : What)
    → EndIsMissing s lines line w → said_from n s lines ≡ Err (fault_at (n + line) w)
missing n s lines line w m =
    ap (λ (ls : List (List ℕ)). said_from n s ls) (sym (append-nil lines))
    ∙ read_on n s m.said lines [] m.good ∙ said_open (n + length lines) m.said m.open_still
    ∙ ap (λ (k : ℕ). Err (fault_at k what.NoEnd)) (omega (arith, m.number))
    ∙ ap (λ (v : What). Err (fault_at (n + line) v)) (sym m.what_is)

ending : (n : ℕ) (s : Said) (lines : List (List ℕ)) (line : ℕ) (said : Said)
    → Ends s lines line said → said_from n s lines ≡ Ok (whole said (n + line))
ending n s lines line said e =
    ap (λ (ls : List (List ℕ)). said_from n s ls) e.parts
    ∙ read_on n s said e.taken e.after e.good ∙ said_done (n + length e.taken) said e.after
    e.is_done
    ∙ ap (λ (k : ℕ). Ok (whole said k)) (omega (arith, e.number))

-- ---- whole files

ends : (bytes : List ℕ) (w : Whole) → said_in bytes ≡ Ok w
    → Ends nothing_said (lines_of bytes) w.last w.said
unfolding said_in
ends bytes w h =
    let d = done 0 nothing_said (lines_of bytes) w.last w.said h in
    let e : d.0 ≡ w.last = omega (arith, d.1) in
    rw (← e) d.2

none_before : (n : ℕ) → 0 + n ≡ n
none_before n = omega arith

pub tells_first_line : TellsFirstLine
unfolding said_in
tells_first_line bytes f = (
  λ h.
      let d = told 0 nothing_said (lines_of bytes) f.line f.what h in
      let e : d.0 ≡ f.line = omega (arith, d.1) in
      rw (← e) d.2,
  λ k. elim k [
    | inl b ↦ broken 0 nothing_said (lines_of bytes) f.line f.what b
        ∙ ap (λ (k : ℕ). Err (fault_at k f.what)) (none_before f.line)
    | inr m ↦ missing 0 nothing_said (lines_of bytes) f.line f.what m
        ∙ ap (λ (k : ℕ). Err (fault_at k f.what)) (none_before f.line)
  ],
)

pub tells_ends : TellsEnds
unfolding said_in
tells_ends bytes w = (
  λ h. ends bytes w h,
  λ e. ending 0 nothing_said (lines_of bytes) w.last
      w.said e ∙ ap (λ (k : ℕ). Ok (whole w.said k)) (none_before w.last),
)

said_by : (bytes : List ℕ) (w : Whole) → said_in bytes ≡ Ok w
    → IsSaidByLines (lines_of bytes) w.last w.said
said_by bytes w e =
    let sections = read_by_sections bytes w e in
    record {
      ends = ends bytes w e;
      sections = sections;
      named = named_by_lines (lines_of bytes) w.said sections;
      given = given_by_lines (lines_of bytes) w.said sections;
      asked = asked_by_lines bytes w e;
    }

pub tells_lines : TellsLines
tells_lines bytes w = (said_by bytes w, λ l. (tells_ends bytes w).1 l.ends)
