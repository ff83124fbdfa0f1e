-- What the text of a journal comes to.
use Rattle.std.specs.Prelude.{◌≡◌, ◌≢◌, ℕ, ◌+◌, List, [], ◌∷◌, ◌++◌, length, All}
use Rattle.bl_journal.specs.declared.entry.Entry.{Entry}
use Rattle.bl_log.specs.Spaced.{Text}
use Rattle.bl_log.specs.Log.{line_of, text_of}
use Rattle.bl_log.specs.Fits.{Fits}

-- the bytes do not begin with the line of an entry
abbrev pub SpellsNone : Text → Type 0
SpellsNone bytes = (e : Entry) (rest : Text) → Fits e → bytes ≢ line_of e ++ 10 ∷ rest

-- line n, counted from 1, is the first that spells no entry
pub record IsFirstBad (bytes : Text) (n : ℕ) : Type 0 where
  pub before : List Entry
  pub rest : Text
  pub cut : bytes ≡ text_of before ++ rest
  pub fits : All Fits before
  pub line : n ≡ length before + 1
  pub some : rest ≢ []
  pub none : SpellsNone rest

-- the text determines the journal: what is written reads back as nothing else
abbrev pub TextDetermines : Type 0
TextDetermines = (a b : List Entry) → All Fits a → All Fits b → text_of a ≡ text_of b → a ≡ b

-- each line of a journal's text spells an entry
abbrev pub HasNoBadLine : Type 0
HasNoBadLine = (j : List Entry) (n : ℕ) → All Fits j → IsFirstBad (text_of j) n → ⊥

-- a text has at most one first bad line
abbrev pub FirstBadIsOne : Type 0
FirstBadIsOne = (bytes : Text) (m n : ℕ) → IsFirstBad bytes m → IsFirstBad bytes n → m ≡ n
