-- The bytes of a line and of several: they are read again as the forms they were written of, a line is short, and lines that are
-- read were so written. Assumes nothing.
use Prim.Native.Nat.{ℕ, ◌+◌, ◌-◌, ◌*◌, ◌^◌, ◌≤◌, ◌<◌}
use native.Mathlib.Omega.{arith}
use mathlib.Core.Path.{◌≡◌, refl, sym, ap, ◌∙◌}
use mathlib.Core.Bool.{Bool, true, false, not}
use mathlib.Core.List.{List, [], ◌∷◌, ◌++◌, map, append_assoc}
use lib.Dec.{eqb, leb, ltb}
use lib.ListN.{length, length-append}
use borrow.Author.Tests.{leb-true, ltb-true, ne_eqb, lt-ltb}
use Rattle.word.specs.Word.{choose}
use Rattle.runs.specs.Lists.{every, concat_map}
use Rattle.runs.proofs.ListLaws.{and_left, and_right, and_both}
use Rattle.decimal.specs.Decimal.{decimal_of}
use Rattle.cfg.specs.declared.Instruction.{Instruction}
use Rattle.delimited.specs.Number.{digit}
use Rattle.delimited.specs.Parts.{Fields, split_at, parted}
use Rattle.delimited.proofs.Split.{apart, split_part, split_parted, parted_split, parted_more, apart_parted}
use Rattle.delimited.proofs.Written.{decimal_digits}
use Rattle.std.specs.Prelude.{Some}
use Rattle.cfg_line.specs.declared.Line.{Line}
use Rattle.cfg_line.specs.declared.Line.TheVariants as line
use Rattle.cfg_line.specs.Name.{instruction_names, comparison_names}
use Rattle.cfg_line.specs.Form.{by_name, line_form}
use Rattle.cfg_write.specs.Write.{instruction_name, comparison_name, literal_text, operands_of, fields_of, line_text}
use Rattle.cfg_write.proofs.LiteralLaws.{number_length, literal_length}
use Rattle.cfg_write.proofs.NameLaws.{Shape, literal, nothing, one, two, shape, not_one, name_test, comparison_test}
use Rattle.cfg_write.proofs.LineLaws.{Formed, FormedInstruction, operands_set, operands_none, operands_one, operands_two, first_small, second_small, Fielded, fields_read, fields_back}

-- a line without its line feed
abbrev pub line_bytes : Line → List ℕ
line_bytes l = parted 44 (fields_of l)

-- ---- no byte of a field parts fields or lines

-- every byte is above those that part
abbrev above : List ℕ → Bool
above = every (λ (x : ℕ). ltb 44 x)

above_apart : (c : ℕ) → c ≤ 44 → (f : List ℕ) → above f ≡ true → apart c f ≡ true
above_apart c h [] k = refl
above_apart c h (x ∷ f) k =
    let l = ltb-true 44 x (and_left (ltb 44 x) (above f) k) in
    and_both (not (eqb x c)) (apart c f) (rw (ne_eqb x c (λ e. omega arith))) (above_apart c h f (and_right (ltb 44 x) (above f) k))

digits_above : (f : List ℕ) → every digit f ≡ true → above f ≡ true
digits_above [] h = refl
digits_above (x ∷ f) h =
    let l = leb-true 48 x (and_left (leb 48 x) (leb x 57) (and_left (digit x) (every digit f) h)) in
    and_both (ltb 44 x) (above f) (lt-ltb 44 x (omega arith)) (digits_above f (and_right (digit x) (every digit f) h))

number_above : (n : ℕ) → above (decimal_of n) ≡ true
number_above n = digits_above (decimal_of n) (decimal_digits n)

literal_above : (w : ℕ) → above (literal_text w) ≡ true
unfolding literal_text
literal_above w = go (ltb w (2 ^ 31))
  where
    go : (t : Bool) → above (choose t (decimal_of w) (45 ∷ decimal_of (2 ^ 32 - w))) ≡ true
    go true = number_above w
    go false = number_above (2 ^ 32 - w)

all_apart : (c : ℕ) → c ≤ 44 → (fs : Fields) → every above fs ≡ true → every (apart c) fs ≡ true
all_apart c h [] k = refl
all_apart c h (f ∷ fs) k =
    and_both (apart c f) (every (apart c) fs)
    (above_apart c h f (and_left (above f) (every above fs) k))
    (all_apart c h fs (and_right (above f) (every above fs) k))

one_above : (f : List ℕ) → above f ≡ true → every above (f ∷ []) ≡ true
one_above f h = and_both (above f) true h refl

two_above : (f : List ℕ) (fs : Fields) → above f ≡ true → every above fs ≡ true → every above (f ∷ fs) ≡ true
two_above f fs h k = and_both (above f) (every above fs) h k

operands_above : (i : Instruction) → Shape i.code → every above (operands_of i) ≡ true
operands_above i (literal e o k) = rw (operands_set i e) (one_above (literal_text i.a) (literal_above i.a))
operands_above i (nothing e o k) = rw (operands_none i (not_one i.code e) o)
operands_above i (one e o k) = rw (operands_one i e o) (one_above (decimal_of i.a) (number_above i.a))
operands_above i (two e o k) =
    rw (operands_two i e (omega arith)) (two_above (decimal_of i.a) (decimal_of i.b ∷ []) (number_above i.a) (one_above (decimal_of i.b) (number_above i.b)))

fields_above : (l : Line) → Formed l → every above (fields_of l) ≡ true
unfolding fields_of instruction_names comparison_names
fields_above (line.Graph b r) h = two_above (decimal_of b) (decimal_of r ∷ []) (number_above b) (one_above (decimal_of r) (number_above r))
fields_above (line.Block n) h = one_above (decimal_of n) (number_above n)
fields_above (line.Instruction i) h =
    two_above (instruction_name i.code) (decimal_of i.d ∷ operands_of i)
    (name_test above refl refl i.code h.fits.known)
    (two_above (decimal_of i.d) (operands_of i) (number_above i.d) (operands_above i (shape i.code h.fits.known)))
fields_above (line.Goto t) h = one_above (decimal_of t) (number_above t)
fields_above (line.Ite c t f) h =
    two_above (comparison_name c.comparison) (decimal_of c.a ∷ decimal_of c.b ∷ decimal_of t ∷ decimal_of f ∷ [])
    (comparison_test above refl c.comparison)
    (two_above (decimal_of c.a) (decimal_of c.b ∷ decimal_of t ∷ decimal_of f ∷ []) (number_above c.a)
    (two_above (decimal_of c.b) (decimal_of t ∷ decimal_of f ∷ []) (number_above c.b)
    (two_above (decimal_of t) (decimal_of f ∷ []) (number_above t)
    (one_above (decimal_of f) (number_above f)))))
fields_above line.Halt h = refl

-- ---- one line

some_field : (l : Line) → Formed l → 0 < length (fields_of l)
unfolding fields_of
some_field (line.Graph b r) h = omega arith
some_field (line.Block n) h = omega arith
some_field (line.Instruction i) h = omega arith
some_field (line.Goto t) h = omega arith
some_field (line.Ite c t f) h = omega arith
some_field line.Halt h = omega arith

split_fields : (c : ℕ) (fs : Fields) → 0 < length fs → every (apart c) fs ≡ true → split_at c (parted c fs) ≡ fs
split_fields c [] s h = absurd (omega arith)
split_fields c (f ∷ fs) s h = split_parted c f fs h

pub line_read : (l : Line) → Formed l → line_form (line_bytes l) ≡ Some l
unfolding line_form
line_read l h =
    ap by_name (split_fields 44 (fields_of l) (some_field l h) (all_apart 44 (omega arith) (fields_of l) (fields_above l h)))
    ∙ fields_read l h

pub record LineWritten (s : List ℕ) (l : Line) : Type 0 where
  pub text : s ≡ line_bytes l
  pub formed : Formed l

pub line_written : (s : List ℕ) {l : Line} → line_form s ≡ Some l → LineWritten s l
unfolding line_form
line_written s {l} e =
    let b : Fielded (split_at 44 s) l = rw e at (fields_back (split_at 44 s)) in
    record { text = sym (parted_split 44 s) ∙ ap (parted 44) b.fields; formed = b.formed }

-- ---- several lines

-- every line can be written
abbrev pub AllFormed : List Line → Type 0
AllFormed [] = Unit {0}
AllFormed (l ∷ ls) = Formed l × AllFormed ls

line_apart : (l : Line) → Formed l → apart 10 (line_bytes l) ≡ true
line_apart l h = apart_parted 10 44 (fields_of l) refl (all_apart 10 (omega arith) (fields_of l) (fields_above l h))

line_text_lem : (l : Line) (s : List ℕ) → line_text l ++ s ≡ line_bytes l ++ (10 ∷ s)
unfolding line_text
line_text_lem l s = append_assoc (line_bytes l) (10 ∷ []) s

pub lines_split : (ls : List Line) → AllFormed ls → split_at 10 (concat_map line_text ls) ≡ map line_bytes ls ++ ([] ∷ [])
unfolding concat_map split_at
lines_split [] h = refl
lines_split (l ∷ ls) h =
    ap (split_at 10) (line_text_lem l (concat_map line_text ls))
    ∙ (split_part 10 (line_bytes l) (concat_map line_text ls) (line_apart l h.0)
    ∙ ap (λ (ms : List (List ℕ)). line_bytes l ∷ ms) (lines_split ls h.1))

pub lines_parted : (ls : List Line) → parted 10 (map line_bytes ls ++ ([] ∷ [])) ≡ concat_map line_text ls
unfolding concat_map parted
lines_parted [] = refl
lines_parted (l ∷ ls) =
    parted_more 10 (line_bytes l) (map line_bytes ls) []
    ∙ (ap (λ (s : List ℕ). line_bytes l ++ (10 ∷ s)) (lines_parted ls) ∙ sym (line_text_lem l (concat_map line_text ls)))

-- ---- how long lines are

-- the fields with a byte behind each
abbrev total : Fields → ℕ
total [] = 0
total (f ∷ fs) = length f + 1 + total fs

parted_length : (c : ℕ) (f : List ℕ) (fs : Fields) → length (parted c (f ∷ fs)) + 1 ≡ total (f ∷ fs)
unfolding parted
parted_length c f [] = omega arith
parted_length c f (g ∷ fs) =
    let i = parted_length c g fs in
    let a = length-append f (c ∷ parted c (g ∷ fs)) in
    omega arith

fields_length : (c : ℕ) (fs : Fields) → 0 < length fs → length (parted c fs) + 1 ≡ total fs
fields_length c [] h = absurd (omega arith)
fields_length c (f ∷ fs) h = parted_length c f fs

operands_total : (i : Instruction) → FormedInstruction i → Shape i.code → total (operands_of i) ≤ 12
operands_total i h (literal e o k) = let l = literal_length i.a (h.literal e) in rw (operands_set i e) (omega arith)
operands_total i h (nothing e o k) = rw (operands_none i (not_one i.code e) o) (omega arith)
operands_total i h (one e o k) = let l = number_length i.a (first_small i h e (omega arith)) in rw (operands_one i e o) (omega arith)
operands_total i h (two e o k) =
    let l = number_length i.a (first_small i h e (omega arith)) in
    let m = number_length i.b (second_small i h o) in
    rw (operands_two i e (omega arith)) (omega arith)

fields_total : (l : Line) → Formed l → total (fields_of l) ≤ 24
unfolding fields_of instruction_names comparison_names
fields_total (line.Graph b r) h =
    let p = h.few_blocks in
    let q = h.few_registers in
    let x = number_length b (omega arith) in
    let y = number_length r (omega arith) in
    omega arith
fields_total (line.Block n) h = let x = number_length n h in omega arith
fields_total (line.Instruction i) h =
    let n = leb-true (length (instruction_name i.code)) 4 (name_test (λ (f : List ℕ). leb (length f) 4) refl refl i.code h.fits.known) in
    let w = h.fits.written in
    let x = number_length i.d (omega arith) in
    let o = operands_total i h (shape i.code h.fits.known) in
    omega arith
fields_total (line.Goto t) h = let x = number_length t h in omega arith
fields_total (line.Ite c t f) h =
    let n = leb-true (length (comparison_name c.comparison)) 3 (comparison_test (λ (f : List ℕ). leb (length f) 3) refl c.comparison) in
    let x = number_length c.a h.first in
    let y = number_length c.b h.second in
    let z = number_length t h.holds in
    let w = number_length f h.fails in
    omega arith
fields_total line.Halt h = omega arith

line_length : (l : Line) → Formed l → length (line_text l) ≤ 24
unfolding line_text
line_length l h =
    let e = length-append (line_bytes l) (10 ∷ []) in
    let p = fields_length 44 (fields_of l) (some_field l h) in
    let t = fields_total l h in
    omega arith

pub lines_length : (ls : List Line) → AllFormed ls → length (concat_map line_text ls) ≤ 24 * length ls
unfolding concat_map
lines_length [] h = omega arith
lines_length (l ∷ ls) h =
    let e = length-append (line_text l) (concat_map line_text ls) in
    let p = line_length l h.0 in
    let q = lines_length ls h.1 in
    omega arith
