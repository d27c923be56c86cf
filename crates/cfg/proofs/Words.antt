-- The admission test word by word, and that it is the definition. Assumes nothing.
use Prim.Native.Nat.{ℕ, zero, suc, ◌+◌, ◌-◌, ◌*◌, ◌≤◌, ◌<◌}
use native.Mathlib.Numerals.{add-one}
use native.Mathlib.Omega.{arith}
use mathlib.Core.Path.{◌≡◌, refl, sym, ap, ◌∙◌}
use mathlib.Core.Bool.{Bool, true, false, ◌&&◌, and_assoc, and_comm, and-true}
use mathlib.Core.List.{List, [], ◌∷◌, ◌++◌, map, append_assoc}
use lib.Dec.{eqb, leb, ltb}
use lib.ListN.{length, get_or, take, drop, replicate, length-drop, length-append, get_or-eq_default}
use lib.Seq.{drop-cons, take-add, drop-drop, length-take-le}
use borrow.Author.Tests.{eq-eqb, ne_eqb, lt-leb, le-leb, leb-true, leb-false}
use Rattle.word.specs.declared.Comparison.TheVariants.{Eq, Ne, Lt, Ge, Ltu, Geu}
use Rattle.word.specs.Word.{comparison_at, comparison_code}
use Rattle.runs.specs.Lists.{up_from, same, every, padded, concat_map}
use Rattle.runs.proofs.ListLaws.{eqb_sym, same_front, same_append, same_zeros, every_and, every_map, padded_append, take-map-up_from, drop-map-up_from}
use Rattle.cfg.specs.declared.Instruction.{Instruction}
use Rattle.cfg.specs.declared.Ending.TheVariants.{Ite}
use Rattle.cfg.specs.declared.Block.{Block}
use Rattle.cfg.specs.Layout.{max_blocks, max_registers, max_instructions, head_words, instruction_words, code_words, ending_words, code_offset, ending_offset, last_offset, block_words, all_block_words, graph_words, block_offset}
use Rattle.cfg.specs.Graph.{CFG, unused, instructions_of, valid_instruction, valid_ending, valid_block, valid_graph}
use Rattle.cfg.specs.Table.{instruction_words_of, ending_words_of, block_words_of, graph_table_of, instruction_at, ending_at, block_at, graph_of, admitted_graph}
use Rattle.cfg.specs.Fits.{zeros, ending_fits, block_fits}
use Rattle.cfg.proofs.Lengths.{ending_length, block_length}
use Rattle.cfg.proofs.Blocks.{count_at, ending_of, ending_goto, ending_ite, ending_halt}
use Rattle.cfg.proofs.Admitted.{blocks_length, registers_are}

-- ---- some words of a table

-- the first of some words
pub take_word : (t : List ℕ) (p n : ℕ) → p < length t → take (suc n) (drop p t) ≡ get_or t p 0 ∷ take n (drop (p + 1) t)
take_word t p n h = rw (drop-cons t p 0 h, add-one)

pub take_words : (t : List ℕ) (p m n : ℕ) → take (m + n) (drop p t) ≡ take m (drop p t) ++ take n (drop (p + m) t)
take_words t p m n = rw (take-add m n (drop p t), drop-drop m p t)

-- ---- the instructions' words

four_words : (t : List ℕ) (p n : ℕ) → p + 4 ≤ length t
    → take (4 * suc n) (drop p t)
    ≡ get_or t p 0 ∷ get_or t (p + 1) 0 ∷ get_or t (p + 2) 0 ∷ get_or t (p + 3) 0 ∷ take (4 * n) (drop (p + 4) t)
four_words t p n h =
    let e : 4 * suc n ≡ suc (suc (suc (suc (4 * n)))) = omega arith in
    let a : p + 1 + 1 ≡ p + 2 = omega arith in
    let b : p + 2 + 1 ≡ p + 3 = omega arith in
    let c : p + 3 + 1 ≡ p + 4 = omega arith in
    rw (e, take_word t p (suc (suc (suc (4 * n)))) (omega arith), take_word t (p + 1) (suc (suc (4 * n))) (omega arith), a, take_word t (p + 2) (suc (4 * n)) (omega arith), b, take_word t (p + 3) (4 * n) (omega arith), c)

pub code_words_lem : (t : List ℕ) (o k n : ℕ) → o + code_offset + instruction_words * (k + n) ≤ length t
    → concat_map instruction_words_of (map (instruction_at t o) (up_from k n)) ≡ take (instruction_words * n) (drop (o + code_offset + instruction_words * k) t)
unfolding concat_map instruction_at
code_words_lem t o k zero h = refl
code_words_lem t o k (suc n) h =
    let e : o + code_offset + instruction_words * suc k ≡ o + code_offset + instruction_words * k + instruction_words = omega arith in
    let i = code_words_lem t o (suc k) n (omega arith) in
    rw (four_words t (o + code_offset + instruction_words * k) n (omega arith), i, e)

zeros_unused : (l : List Instruction) → every (λ (x : ℕ). eqb x 0) (concat_map instruction_words_of l) ≡ every unused l
unfolding concat_map
zeros_unused [] = refl
zeros_unused (i ∷ l) =
    rw (zeros_unused l, and_assoc (eqb i.code 0 && eqb i.d 0 && eqb i.a 0) (eqb i.b 0) (every unused l), and_assoc (eqb i.code 0 && eqb i.d 0) (eqb i.a 0) (eqb i.b 0 && every unused l), and_assoc (eqb i.code 0) (eqb i.d 0) (eqb i.a 0 && (eqb i.b 0 && every unused l)))

-- ---- a block's words

pub instructions_are : (t : List ℕ) (n : ℕ) → (block_at t n).instructions ≡ map (instruction_at t (block_offset n)) (up_from 0 max_instructions)
unfolding block_at
instructions_are t n = refl

block_list : (t : List ℕ) (o : ℕ) → o + block_words ≤ length t
    → take block_words (drop o t)
    ≡ get_or t o 0 ∷ (take code_words (drop (o + code_offset) t) ++ (take ending_words (drop (o + ending_offset) t) ++ (get_or t (o + last_offset) 0 ∷ [])))
block_list t o h =
    let a : o + code_offset + code_words ≡ o + ending_offset = omega arith in
    let b : o + ending_offset + ending_words ≡ o + last_offset = omega arith in
    rw (take_word t o last_offset (omega arith), take_words t (o + code_offset) code_words (ending_words + 1), a, take_words t (o + ending_offset) ending_words 1, b, take_word t (o + last_offset) 0 (omega arith))

words_of_lem : (b : Block) → block_words_of b ≡ b.count ∷ (concat_map instruction_words_of b.instructions ++ (ending_words_of b.ending ++ (0 ∷ [])))
unfolding block_words_of
words_of_lem b = refl

pub block_words_lem : (t : List ℕ) (n : ℕ) → block_offset n + block_words ≤ length t
    → same (block_words_of (block_at t n)) (take block_words (drop (block_offset n) t))
    ≡ same (ending_words_of (ending_at t (block_offset n + ending_offset))) (take ending_words (drop (block_offset n + ending_offset) t))
    && eqb (get_or t (block_offset n + last_offset) 0) 0
block_words_lem t n h =
    let o = block_offset n in
    let z : o + code_offset + instruction_words * 0 ≡ o + code_offset = omega arith in
    rw (words_of_lem (block_at t n), count_at t n, ending_of t n, instructions_are t n, code_words_lem t o 0 max_instructions (omega arith), z, block_list t o h, eq-eqb (get_or t o 0) (get_or t o 0) refl, same_front (take code_words (drop (o + code_offset) t)) (ending_words_of (ending_at t (o + ending_offset)) ++ (0 ∷ [])) (take ending_words (drop (o + ending_offset) t) ++ (get_or t (o + last_offset) 0 ∷ [])), same_append (ending_words_of (ending_at t (o + ending_offset))) (0 ∷ []) (take ending_words (drop (o + ending_offset) t)) (get_or t (o + last_offset) 0 ∷ []) (ending_length (ending_at t (o + ending_offset)) ∙ sym (length-take-le ending_words (drop (o + ending_offset) t) (rw length-drop (omega arith)))), eqb_sym 0 (get_or t (o + last_offset) 0), and-true (eqb (get_or t (o + last_offset) 0) 0))

-- ---- the comparisons' codes are 12 to 17

module _ (c : ℕ) where
  code_at : (m : ℕ) → c ≡ 12 + m → m ≤ 5 → comparison_code (get_or (Eq ∷ Ne ∷ Lt ∷ Ge ∷ Ltu ∷ Geu ∷ []) m Eq) ≡ c
  code_at zero e h = sym e
  code_at (suc zero) e h = sym e
  code_at (suc (suc zero)) e h = sym e
  code_at (suc (suc (suc zero))) e h = sym e
  code_at (suc (suc (suc (suc zero)))) e h = sym e
  code_at (suc (suc (suc (suc (suc zero))))) e h = sym e
  code_at (suc (suc (suc (suc (suc (suc m)))))) e h = absurd (omega arith)

  code_mid : 12 ≤ c → c ≤ 17 → eqb (comparison_code (comparison_at c)) c ≡ true
  code_mid h k = eq-eqb (comparison_code (comparison_at c)) c (code_at (c - 12) (omega arith) (omega arith))

  pub code_range : eqb (comparison_code (comparison_at c)) c ≡ leb 12 c && leb c 17
  code_range = low (leb 12 c) refl
    where
      first : get_or (Eq ∷ Ne ∷ Lt ∷ Ge ∷ Ltu ∷ Geu ∷ []) (c - 12) Eq ≡ Eq → (c ≡ 12 → ⊥) → eqb (comparison_code (comparison_at c)) c ≡ false
      first e h = rw e (ne_eqb 12 c (λ z. h (sym z)))

      high : (x : Bool) → leb c 17 ≡ x → 12 ≤ c → eqb (comparison_code (comparison_at c)) c ≡ x
      high true e l = code_mid l (leb-true c 17 e)
      high false e l =
          let m = leb-false c 17 e in
          first (get_or-eq_default (Eq ∷ Ne ∷ Lt ∷ Ge ∷ Ltu ∷ Geu ∷ []) Eq {n = c - 12} (omega arith)) (λ z. omega arith)

      low : (x : Bool) → leb 12 c ≡ x → eqb (comparison_code (comparison_at c)) c ≡ x && leb c 17
      low true e = high (leb c 17) refl (leb-true 12 c e)
      low false e =
          let m = leb-false 12 c e in
          let z : c - 12 ≡ 0 = omega arith in
          first (rw z) (λ q. omega arith)

-- ---- an ending fits

fits_ending : (b r : ℕ) (t : List ℕ) (o : ℕ) → ending_fits b r t o ≡ valid_ending b r (ending_at t o) && same (ending_words_of (ending_at t o)) (take ending_words (drop o t))
unfolding ending_fits
fits_ending b r t o = refl

six_words : (t : List ℕ) (o : ℕ) → o + ending_words ≤ length t
    → take ending_words (drop o t)
    ≡ get_or t o 0 ∷ get_or t (o + 1) 0 ∷ get_or t (o + 2) 0 ∷ get_or t (o + 3) 0 ∷ get_or t (o + 4) 0 ∷ get_or t (o + 5) 0 ∷ []
six_words t o h =
    let a : o + 1 + 1 ≡ o + 2 = omega arith in
    let b : o + 2 + 1 ≡ o + 3 = omega arith in
    let c : o + 3 + 1 ≡ o + 4 = omega arith in
    let d : o + 4 + 1 ≡ o + 5 = omega arith in
    rw (take_word t o 5 (omega arith), take_word t (o + 1) 4 (omega arith), a, take_word t (o + 2) 3 (omega arith), b, take_word t (o + 3) 2 (omega arith), c, take_word t (o + 4) 1 (omega arith), d, take_word t (o + 5) 0 (omega arith))

same_goto : (k c a b x y : ℕ) → k ≡ 1 → same (1 ∷ 0 ∷ 0 ∷ 0 ∷ x ∷ 0 ∷ []) (k ∷ c ∷ a ∷ b ∷ x ∷ y ∷ []) ≡ eqb c 0 && (eqb a 0 && (eqb b 0 && (eqb y 0 && true)))
same_goto k c a b x y h = rw (h, eqb_sym 0 c, eqb_sym 0 a, eqb_sym 0 b, eqb_sym 0 y, eq-eqb x x refl)

same_ite : (k c a b x y z : ℕ) → k ≡ 2 → same (2 ∷ z ∷ a ∷ b ∷ x ∷ y ∷ []) (k ∷ c ∷ a ∷ b ∷ x ∷ y ∷ []) ≡ eqb z c
same_ite k c a b x y z h = rw (h, eq-eqb a a refl, eq-eqb b b refl, eq-eqb x x refl, eq-eqb y y refl, and-true (eqb z c))

same_halt : (k c a b x y : ℕ) → k ≡ 3 → same (3 ∷ 0 ∷ 0 ∷ 0 ∷ 0 ∷ 0 ∷ []) (k ∷ c ∷ a ∷ b ∷ x ∷ y ∷ []) ≡ eqb c 0 && (eqb a 0 && (eqb b 0 && (eqb x 0 && eqb y 0)))
same_halt k c a b x y h = rw (h, eqb_sym 0 c, eqb_sym 0 a, eqb_sym 0 b, eqb_sym 0 x, eqb_sym 0 y, and-true (eqb y 0))

same_none : (k : ℕ) (l : List ℕ) → (k ≡ 3 → ⊥) → same (3 ∷ 0 ∷ 0 ∷ 0 ∷ 0 ∷ 0 ∷ []) (k ∷ l) ≡ false
same_none k l h = rw (ne_eqb 3 k (λ e. h (sym e)))

target_last : (p q s u v : Bool) → p && (q && (s && (u && (v && true)))) ≡ q && (s && (u && (v && p)))
target_last true q s u v = refl
target_last false false s u v = refl
target_last false true false u v = refl
target_last false true true false v = refl
target_last false true true true false = refl
target_last false true true true true = refl

module _ (b r : ℕ) (t : List ℕ) (o : ℕ) (l : o + ending_words ≤ length t) where
  pub goto_fits : get_or t o 0 ≡ 1
      → ending_fits b r t o
      ≡ eqb (get_or t (o + 1) 0) 0 && (eqb (get_or t (o + 2) 0) 0 && (eqb (get_or t (o + 3) 0) 0 && (eqb (get_or t (o + 5) 0) 0 && ltb (get_or t (o + 4) 0) b)))
  unfolding valid_ending
  goto_fits h =
      fits_ending b r t o
      ∙ rw (ending_goto t o h, six_words t o l, same_goto (get_or t o 0) (get_or t (o + 1) 0) (get_or t (o + 2) 0) (get_or t (o + 3) 0) (get_or t (o + 4) 0) (get_or t (o + 5) 0) h)
      (target_last (ltb (get_or t (o + 4) 0) b) (eqb (get_or t (o + 1) 0) 0) (eqb (get_or t (o + 2) 0) 0) (eqb (get_or t (o + 3) 0) 0) (eqb (get_or t (o + 5) 0) 0))

  ite_parts : get_or t o 0 ≡ 2
      → ending_fits b r t o
      ≡ eqb (comparison_code (comparison_at (get_or t (o + 1) 0))) (get_or t (o + 1) 0)
      && valid_ending b r (Ite (record { comparison = comparison_at (get_or t (o + 1) 0); a = get_or t (o + 2) 0; b = get_or t (o + 3) 0 }) (get_or t (o + 4) 0) (get_or t (o + 5) 0))
  ite_parts h =
      fits_ending b r t o
      ∙ rw (ending_ite t o h, six_words t o l, same_ite (get_or t o 0) (get_or t (o + 1) 0) (get_or t (o + 2) 0) (get_or t (o + 3) 0) (get_or t (o + 4) 0) (get_or t (o + 5) 0) (comparison_code (comparison_at (get_or t (o + 1) 0))) h)
      (and_comm
      (valid_ending b r (Ite (record { comparison = comparison_at (get_or t (o + 1) 0); a = get_or t (o + 2) 0; b = get_or t (o + 3) 0 }) (get_or t (o + 4) 0) (get_or t (o + 5) 0)))
      (eqb (comparison_code (comparison_at (get_or t (o + 1) 0))) (get_or t (o + 1) 0)))

  pub ite_fits : get_or t o 0 ≡ 2
      → ending_fits b r t o
      ≡ leb 12 (get_or t (o + 1) 0)
      && (leb (get_or t (o + 1) 0) 17 && (ltb (get_or t (o + 2) 0) r && (ltb (get_or t (o + 3) 0) r && (ltb (get_or t (o + 4) 0) b && ltb (get_or t (o + 5) 0) b))))
  unfolding valid_ending
  ite_fits h = ite_parts h ∙ rw (code_range (get_or t (o + 1) 0)) (simp and_assoc)

  pub halt_fits : get_or t o 0 ≡ 3
      → ending_fits b r t o
      ≡ eqb (get_or t (o + 1) 0) 0 && (eqb (get_or t (o + 2) 0) 0 && (eqb (get_or t (o + 3) 0) 0 && (eqb (get_or t (o + 4) 0) 0 && eqb (get_or t (o + 5) 0) 0)))
  unfolding valid_ending
  halt_fits h =
      fits_ending b r t o
      ∙ rw (ending_halt t o (λ e. omega arith) (λ e. omega arith), six_words t o l, same_halt (get_or t o 0) (get_or t (o + 1) 0) (get_or t (o + 2) 0) (get_or t (o + 3) 0) (get_or t (o + 4) 0) (get_or t (o + 5) 0) h)

  pub none_fits : (get_or t o 0 ≡ 1 → ⊥) → (get_or t o 0 ≡ 2 → ⊥) → (get_or t o 0 ≡ 3 → ⊥) → ending_fits b r t o ≡ false
  unfolding valid_ending
  none_fits h₁ h₂ h₃ =
      fits_ending b r t o
      ∙ rw (ending_halt t o h₁ h₂, six_words t o l, same_none (get_or t o 0) (get_or t (o + 1) 0 ∷ get_or t (o + 2) 0 ∷ get_or t (o + 3) 0 ∷ get_or t (o + 4) 0 ∷ get_or t (o + 5) 0 ∷ []) h₃)

-- ---- a block fits

fits_block : (b r : ℕ) (t : List ℕ) (n : ℕ) → block_fits b r t n ≡ valid_block b r (block_at t n) && same (block_words_of (block_at t n)) (take block_words (drop (block_offset n) t))
unfolding block_fits
fits_block b r t n = refl

valid_is : (b r : ℕ) (k : Block)
    → valid_block b r k
    ≡ leb k.count max_instructions && every (valid_instruction r) (instructions_of k) && every unused (drop k.count k.instructions) && valid_ending b r k.ending
unfolding valid_block
valid_is b r k = refl

in_order : (code rest ended words last : Bool) → ((code && rest) && ended) && (words && last) ≡ code && (rest && ((ended && words) && last))
in_order true true true words last = refl
in_order true true false words last = refl
in_order true false ended words last = refl
in_order false rest ended words last = refl

module _ (b r : ℕ) (t : List ℕ) (n : ℕ) where
  pub block_many : max_instructions < get_or t (block_offset n) 0 → block_fits b r t n ≡ false
  block_many h =
      fits_block b r t n ∙ rw (valid_is b r (block_at t n), count_at t n, lt-leb (get_or t (block_offset n) 0) max_instructions h)

  pub block_few : block_offset n + block_words ≤ length t → get_or t (block_offset n) 0 ≤ max_instructions
      → block_fits b r t n
      ≡ every (valid_instruction r) (map (instruction_at t (block_offset n)) (up_from 0 (get_or t (block_offset n) 0)))
      && (zeros t (block_offset n + code_offset + instruction_words * get_or t (block_offset n) 0) (instruction_words * (max_instructions - get_or t (block_offset n) 0))
      && (ending_fits b r t (block_offset n + ending_offset) && eqb (get_or t (block_offset n + last_offset) 0) 0))
  block_few l h =
      let o = block_offset n in
      let k = get_or t o 0 in
      let e : 0 + k ≡ k = omega arith in
      let u = ap (every (λ (x : ℕ). eqb x 0)) (code_words_lem t o k (max_instructions - k) (omega arith)) in
      fits_block b r t n
      ∙ rw (block_words_lem t n l, valid_is b r (block_at t n), count_at t n, instructions_are t n, le-leb k max_instructions h, take-map-up_from (instruction_at t o) 0 max_instructions k h, drop-map-up_from (instruction_at t o) 0 max_instructions k h, e, ← zeros_unused (map (instruction_at t o) (up_from k (max_instructions - k))), u, ending_of t n, fits_ending b r t (o + ending_offset))
      (in_order (every (valid_instruction r) (map (instruction_at t o) (up_from 0 k))) (zeros t (o + code_offset + instruction_words * k) (instruction_words * (max_instructions - k))) (valid_ending b r (ending_at t (o + ending_offset))) (same (ending_words_of (ending_at t (o + ending_offset))) (take ending_words (drop (o + ending_offset) t))) (eqb (get_or t (o + last_offset) 0) 0))

-- ---- all blocks, and what follows them

its_length : (t : List ℕ) (n : ℕ) → length (block_words_of (block_at t n)) ≡ block_words
its_length t n = block_length (block_at t n) (ap length (instructions_are t n))

own : List ℕ → ℕ → Bool
own t j = same (block_words_of (block_at t j)) (take block_words (drop (block_offset j) t))

blocks_words : (t : List ℕ) (m k n : ℕ) → block_offset (k + n) + m ≤ length t
    → same (concat_map block_words_of (map (block_at t) (up_from k n)) ++ replicate m 0) (take (block_words * n + m) (drop (block_offset k) t))
    ≡ every (own t) (up_from k n) && zeros t (block_offset (k + n)) m
unfolding concat_map own
blocks_words t m k zero h =
    let e : 0 + m ≡ m = omega arith in
    let z : block_words * (k + 0) ≡ block_words * k = omega arith in
    rw (e, z) (same_zeros m (take m (drop (block_offset k) t)) (length-take-le m (drop (block_offset k) t) (rw length-drop (omega arith))))
blocks_words t m k (suc n) h =
    let i = blocks_words t m (suc k) n (omega arith) in
    let w = block_words_of (block_at t k) in
    let rest = concat_map block_words_of (map (block_at t) (up_from (suc k) n)) in
    let e : block_words * suc n + m ≡ block_words + (block_words * n + m) = omega arith in
    let p : block_offset k + block_words ≡ block_offset (suc k) = omega arith in
    let q : block_words * (suc k + n) ≡ block_words * (k + suc n) = omega arith in
    let s = same_append w (rest ++ replicate m 0) (take block_words (drop (block_offset k) t)) (take (block_words * n + m) (drop (block_offset (suc k)) t)) (its_length t k ∙ sym (length-take-le block_words (drop (block_offset k) t) (rw length-drop (omega arith)))) in
    rw (append_assoc w rest (replicate m 0), e, take_words t (block_offset k) block_words (block_words * n + m), p, s, i, q, and_assoc (same w (take block_words (drop (block_offset k) t))) (every (own t) (up_from (suc k) n)) (zeros t (block_offset (k + suc n)) m))

-- ---- the whole table

pub admitted_is : (t : List ℕ) → admitted_graph t ≡ valid_graph (graph_of t) && same (graph_table_of (graph_of t)) (take graph_words t)
unfolding admitted_graph
admitted_is t = refl

graph_is : (g : CFG)
    → valid_graph g
    ≡ leb 1 (length g.blocks) && leb (length g.blocks) max_blocks && leb 1 g.registers && leb g.registers max_registers
    && every (valid_block (length g.blocks) g.registers) g.blocks
unfolding valid_graph
graph_is g = refl

pub table_is : (g : CFG) → graph_table_of g ≡ length g.blocks ∷ g.registers ∷ padded all_block_words 0 (concat_map block_words_of g.blocks)
unfolding graph_table_of
table_is g = refl

-- the head agrees, so the rest decides; m stands for the words after the head
by_rest : (m n r n' r' : ℕ) (all all' ws t t' : List ℕ) → t ≡ n' ∷ r' ∷ padded m 0 all' → n' ≡ n → r' ≡ r → all' ≡ all → t' ≡ n ∷ r ∷ ws → length all ≤ m
    → same t t' ≡ same (all ++ replicate (m - length all) 0) ws
by_rest m n r n' r' all all' ws t t' e₁ e₂ e₃ e₄ e₅ h =
    rw (e₁, e₂, e₃, e₄, e₅, eq-eqb n n refl, eq-eqb r r refl, padded_append m 0 all h)

pub blocks_are : (t : List ℕ) → (graph_of t).blocks ≡ map (block_at t) (up_from 0 (get_or t 0 0))
unfolding graph_of
blocks_are t = refl

all_fit : (b r : ℕ) (t l : List ℕ) → every (λ (j : ℕ). valid_block b r (block_at t j) && own t j) l ≡ every (block_fits b r t) l
unfolding block_fits own
all_fit b r t l = refl

-- the blocks' words, one after another
all_length : (t : List ℕ) (k n : ℕ) → length (concat_map block_words_of (map (block_at t) (up_from k n))) ≡ block_words * n
unfolding concat_map
all_length t k zero = refl
all_length t k (suc n) =
    let i = all_length t (suc k) n in
    rw (length-append (block_words_of (block_at t k)) (concat_map block_words_of (map (block_at t) (up_from (suc k) n))), its_length t k) (omega arith)

-- the table's words are those of its graph where each block's are, and the rest is 0
table_words : (t : List ℕ) → graph_words ≤ length t → get_or t 0 0 ≤ max_blocks
    → same (graph_table_of (graph_of t)) (take graph_words t)
    ≡ every (own t) (up_from 0 (get_or t 0 0)) && zeros t (block_offset (get_or t 0 0)) (all_block_words - block_words * get_or t 0 0)
table_words t l h =
    let b = get_or t 0 0 in
    let all = concat_map block_words_of (map (block_at t) (up_from 0 b)) in
    let n = all_length t 0 b in
    let e : block_words * b + (all_block_words - block_words * b) ≡ all_block_words = omega arith in
    let z : 0 + b ≡ b = omega arith in
    let w = blocks_words t (all_block_words - block_words * b) 0 b (omega arith) in
    let two = take_word t 0 (suc all_block_words) (omega arith) ∙ ap (λ (x : List ℕ). b ∷ x) (take_word t 1 all_block_words (omega arith)) in
    by_rest all_block_words b (get_or t 1 0) (length (graph_of t).blocks) (graph_of t).registers all (concat_map block_words_of (graph_of t).blocks) (take all_block_words (drop head_words t)) (graph_table_of (graph_of t)) (take graph_words t) (table_is (graph_of t)) (blocks_length t) (registers_are t) (ap (concat_map block_words_of) (blocks_are t)) two (omega arith)
    ∙ ap (λ (k : ℕ). same (all ++ replicate (all_block_words - k) 0) (take all_block_words (drop head_words t))) n
    ∙ (rw (e, z) at w)

module _ (t : List ℕ) where
  by_head : admitted_graph t
      ≡ leb 1 (get_or t 0 0) && leb (get_or t 0 0) max_blocks && leb 1 (get_or t 1 0) && leb (get_or t 1 0) max_registers
      && every (valid_block (get_or t 0 0) (get_or t 1 0)) (map (block_at t) (up_from 0 (get_or t 0 0)))
      && same (graph_table_of (graph_of t)) (take graph_words t)
  by_head = rw (admitted_is t, graph_is (graph_of t), blocks_length t, registers_are t, blocks_are t)

  pub no_block : get_or t 0 0 < 1 → admitted_graph t ≡ false
  no_block h = rw (by_head, lt-leb 1 (get_or t 0 0) h)

  pub many_blocks : 1 ≤ get_or t 0 0 → max_blocks < get_or t 0 0 → admitted_graph t ≡ false
  many_blocks h₁ h = rw (by_head, le-leb 1 (get_or t 0 0) h₁, lt-leb (get_or t 0 0) max_blocks h)

  pub no_register : 1 ≤ get_or t 0 0 → get_or t 0 0 ≤ max_blocks → get_or t 1 0 < 1 → admitted_graph t ≡ false
  no_register h₁ h₂ h = rw (by_head, le-leb 1 (get_or t 0 0) h₁, le-leb (get_or t 0 0) max_blocks h₂, lt-leb 1 (get_or t 1 0) h)

  pub many_registers : 1 ≤ get_or t 0 0 → get_or t 0 0 ≤ max_blocks → 1 ≤ get_or t 1 0 → max_registers < get_or t 1 0 → admitted_graph t ≡ false
  many_registers h₁ h₂ h₃ h = rw (by_head, le-leb 1 (get_or t 0 0) h₁, le-leb (get_or t 0 0) max_blocks h₂, le-leb 1 (get_or t 1 0) h₃, lt-leb (get_or t 1 0) max_registers h)

  pub by_blocks : graph_words ≤ length t → 1 ≤ get_or t 0 0 → get_or t 0 0 ≤ max_blocks → 1 ≤ get_or t 1 0 → get_or t 1 0 ≤ max_registers
      → admitted_graph t
      ≡ every (block_fits (get_or t 0 0) (get_or t 1 0) t) (up_from 0 (get_or t 0 0)) && zeros t (block_offset (get_or t 0 0)) (all_block_words - block_words * get_or t 0 0)
  by_blocks l h₁ h₂ h₃ h₄ =
      let b = get_or t 0 0 in
      let r = get_or t 1 0 in
      let valid : ℕ → Bool = λ j. valid_block b r (block_at t j) in
      by_head
      ∙ rw (le-leb 1 b h₁, le-leb b max_blocks h₂, le-leb 1 r h₃, le-leb r max_registers h₄, table_words t l h₂, every_map (block_at t) (valid_block b r) (up_from 0 b), ← and_assoc (every valid (up_from 0 b)) (every (own t) (up_from 0 b)) (zeros t (block_offset b) (all_block_words - block_words * b)), every_and valid (own t) (up_from 0 b), all_fit b r t (up_from 0 b))
