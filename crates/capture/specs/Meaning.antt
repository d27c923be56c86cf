-- What an answer says of two captures: which line is the first faulty one, or how many cycles both hold and the lowest of them where they
-- differ. Every answer says so: `means` of proofs/Meaning. Assumes nothing.
use Rattle.std.specs.Prelude.{ℕ, zero, suc, ◌<◌, Bool, true, false, ◌&&◌, List, [], ◌∷◌, ◌++◌, map, ◌≡◌, length, ltb, Option, None, Some, Result, Ok, Err}
use Rattle.refusal.specs.declared.Refusal.{Refusal}
use Rattle.refusal.specs.declared.Refusal.TheVariants.{BadRecording, BadCycle}
use Rattle.runs.specs.Lists.{same, mem, only}
use Rattle.capture.specs.declared.Comparison.{Comparison}
use Rattle.capture.specs.declared.CaptureError.{CaptureError}
use Rattle.capture.specs.Capture.{Entry, recording, entry_at, in_range, refused as refused_at}

abbrev pub cycles : List Entry → List ℕ
cycles = map (λ e. e.cycle)

-- ---- one recording

-- each cycle is above the one before
abbrev pub rising : List ℕ → Bool
rising [] = true
rising (c ∷ []) = true
rising (c ∷ d ∷ cs) = ltb c d && rising (d ∷ cs)

-- all lines are of the form, and the cycles rise
pub record Sound (ls : List (Option Entry)) : Type 0 where
  pub entries : List Entry
  pub lines : ls ≡ map Some entries
  pub rise : rising (cycles entries) ≡ true

-- 17 a line that is not of the form; 18 a cycle that is not above those before it
abbrev pub Faulty : Refusal → List ℕ → Option Entry → Type 0
Faulty k before None = k ≡ BadRecording
Faulty k before (Some e) = (k ≡ BadCycle) × (rising (before ++ (e.cycle ∷ [])) ≡ false)

-- line n is faulty, and none before it is
pub record FirstFault (ls : List (Option Entry)) (k : Refusal) (n : ℕ) : Type 0 where
  pub before : List Entry
  pub line : Option Entry
  pub behind : List (Option Entry)
  pub lines : ls ≡ map Some before ++ (line ∷ behind)
  pub number : n ≡ suc (length before)
  pub rise : rising (cycles before) ≡ true
  pub faulty : Faulty k (cycles before) line

-- ---- two recordings

-- what both say of the cycle c
pub record Both (es bs : List Entry) (c : ℕ) : Type 0 where
  pub one : Entry
  pub two : Entry
  pub in_first : entry_at c es ≡ Some one
  pub in_second : entry_at c bs ≡ Some two

-- they say the same, where both hold it
abbrev pub Agrees : (es bs : List Entry) (c : ℕ) → Type 0
Agrees es bs c = (w : Both es bs c) → same w.one.words w.two.words ≡ true

-- they differ at c, and at no cycle below
pub record Lowest (es bs : List Entry) (c : ℕ) : Type 0 where
  pub here : Both es bs c
  pub differ : same here.one.words here.two.words ≡ false
  pub below : (k : ℕ) → k < c → Agrees es bs k

abbrev pub Says : List Entry → List Entry → Option ℕ → Type 0
Says es bs None = (k : ℕ) → Agrees es bs k
Says es bs (Some c) = Lowest es bs c

-- ---- the answer

-- both recordings are sound; n is the number of cycles that both hold, and d the lowest of them where they differ
pub record Compares (ls ms : List (Option Entry)) (n : ℕ) (d : Option ℕ) : Type 0 where
  pub first : Sound ls
  pub second : Sound ms
  pub count : n ≡ length (only (λ c. mem c (cycles second.entries)) (cycles first.entries))
  pub lowest : Says first.entries second.entries d

-- recording i, of which 0 is none, is the first that is not sound
abbrev pub Refuses : (ls ms : List (Option Entry)) (k : Refusal) (i n : ℕ) → Type 0
Refuses ls ms k zero n = ⊥
Refuses ls ms k (suc zero) n = FirstFault ls k n
Refuses ls ms k (suc (suc zero)) n = Sound ls × FirstFault ms k n
Refuses ls ms k (suc (suc (suc i))) n = ⊥

abbrev pub MeansOf : (ls ms : List (Option Entry)) → Result Comparison CaptureError → Type 0
MeansOf ls ms (Err e) = Refuses ls ms e.refusal e.recording e.line
MeansOf ls ms (Ok c) = Compares ls ms c.shared c.difference

-- where R is 1 to 16, what the answer says of the lines; else it is refused 17, of no recording and no line
pub record Means (r : ℕ) (one two : List ℕ) (a : Result Comparison CaptureError) : Type 0 where
  pub compared : in_range r ≡ true → MeansOf (recording r one) (recording r two) a
  pub refused : in_range r ≡ false → a ≡ refused_at BadRecording 0 0
