-- What a code gives from words within ranges lies in its range: one law over all codes. Assumes nothing.
use Rattle.std.proofs.Common.{◌≡◌, ℕ, zero, suc, ◌%◌, ◌^◌, ◌<◌, ◌≤◌, Bool, true, false, not, ◌&&◌, ◌||◌, eqb, ltb, leb, ◌⊎◌, List, [], ◌∷◌, get_or, sym, refl, ap, ◌∙◌, inl, inr, le_trans, arith, lit<, ltb-false, ltb-true, le-ltb, lt-ltb, eq-eqb, ne_eqb, eqb-true, le-leb, leb-false, leb-true}
use mathlib.Core.Bool.{false≢true}
use borrow.Author.Tests.{lt-leb}
use Rattle.runs.proofs.ListLaws.{and_left, and_right}
use Rattle.runs.proofs.Tests.{or_true, or_false, and_false}
use Rattle.word.specs.Word.{choose, add_of, sub_of, sx_of, compare_of, truth, results, eval_of, arities, arity}
use Rattle.word.specs.declared.Comparison.TheVariants.{Eq, Ne, Lt, Ge, Ltu, Geu}
use Rattle.word.proofs.Laws.{eval_lt}
use Rattle.word.proofs.Levels.{level, lt_level, ge_level, add_level, sub_level, sx_level}
use Rattle.word.proofs.OverLaws.{add_stays, sub_stays}
use Rattle.word.proofs.WireLaws.{eval_uses, eval_unsampled}
use Rattle.bounds.specs.declared.Range.{Range}
use Rattle.bounds.specs.Range.{span, exact, full, sixteen_bits, is_single, has_zero, hull, sum_range, difference_range, sx_range, all_below, none_below, disjoint, verdict, select_range, rules, rule_of, all_single, range_of}

-- the word x lies in r, whose ends are words
pub record Within (r : Range) (x : ℕ) : Type 0 where
  pub low_word : r.low < 2 ^ 32
  pub high_word : r.high < 2 ^ 32
  pub word : x < 2 ^ 32
  pub above : level r.low ≤ level x
  pub under : level x ≤ level r.high

pub exact_holds : (x : ℕ) → x < 2 ^ 32 → Within (exact x) x
exact_holds x h = record { low_word = h; high_word = h; word = h; above = omega arith; under = omega arith }

full_holds : (x : ℕ) → x < 2 ^ 32 → Within full x
full_holds x h =
    record { low_word = lit< tt; high_word = lit< tt; word = h; above = omega arith; under = omega arith }

single_is : (r : Range) (x : ℕ) → Within r x → is_single r ≡ true → x ≡ r.low
single_is r x w e =
    let s = eqb-true r.low r.high e in
    omega arith

-- of two ranges, the one that a test chooses
chosen : (t : Bool) (r s : Range) (x : ℕ) → (t ≡ true → Within r x) → (t ≡ false → Within s x) → Within (choose t r s) x
chosen true r s x f g = f refl
chosen false r s x f g = g refl

-- ---- signed tests, read as levels

module _ (x y : ℕ) (h : x < 2 ^ 32) (k : y < 2 ^ 32) where
  lt_yes : compare_of Lt x y ≡ true → level x < level y
  lt_yes e = ltb-true (level x) (level y) (sym (lt_level x y h k) ∙ e)

  lt_no : compare_of Lt x y ≡ false → level y ≤ level x
  lt_no e = ltb-false (level x) (level y) (sym (lt_level x y h k) ∙ e)

  ge_yes : compare_of Ge x y ≡ true → level y ≤ level x
  ge_yes e = leb-true (level y) (level x) (sym (ge_level x y h k) ∙ e)

  ge_no : compare_of Ge x y ≡ false → level x < level y
  ge_no e = leb-false (level y) (level x) (sym (ge_level x y h k) ∙ e)

-- the lower and the upper of two
module _ (x y : ℕ) (h : x < 2 ^ 32) (k : y < 2 ^ 32) where
  lower : (t : Bool) → compare_of Lt y x ≡ t → (choose t y x < 2 ^ 32) × (level (choose t y x) ≤ level x) × (level (choose t y x) ≤ level y)
  lower true e = let l = lt_yes y x k h e in (k, omega arith, omega arith)
  lower false e = let l = lt_no y x k h e in (h, omega arith, omega arith)

  upper : (t : Bool) → compare_of Lt x y ≡ t → (choose t y x < 2 ^ 32) × (level x ≤ level (choose t y x)) × (level y ≤ level (choose t y x))
  upper true e = let l = lt_yes x y h k e in (k, omega arith, omega arith)
  upper false e = let l = lt_no x y h k e in (h, omega arith, omega arith)

-- ---- the rules that are not the full range

module _ (A B : Range) (a b : ℕ) (p : Within A a) (q : Within B b) where
  sum_holds : add_of a b < 2 ^ 32 → Within (sum_range A B) (add_of a b)
  sum_holds h =
      chosen _ full (span (add_of A.low B.low) (add_of A.high B.high)) (add_of a b) (λ e. full_holds (add_of a b) h)
      (λ e.
      let f = or_false _ _ e in
      let s = add_stays A.low B.low p.low_word q.low_word f.0 in
      let t = add_stays A.high B.high p.high_word q.high_word f.1 in
      let l = add_level A.low B.low s in
      let u = add_level A.high B.high t in
      let m = add_level a b (record { least = omega arith; most = omega arith }) in
      record { low_word = omega arith; high_word = omega arith; word = h; above = omega arith; under = omega arith })

  difference_holds : sub_of a b < 2 ^ 32 → Within (difference_range A B) (sub_of a b)
  difference_holds h =
      chosen _ full (span (sub_of A.low B.high) (sub_of A.high B.low)) (sub_of a b) (λ e. full_holds (sub_of a b) h)
      (λ e.
      let f = or_false _ _ e in
      let s = sub_stays A.low B.high p.low_word q.high_word f.0 in
      let t = sub_stays A.high B.low p.high_word q.low_word f.1 in
      let l = sub_level A.low B.high q.high_word s in
      let u = sub_level A.high B.low q.low_word t in
      let m = sub_level a b q.word (record { least = omega arith; most = omega arith }) in
      record { low_word = omega arith; high_word = omega arith; word = h; above = omega arith; under = omega arith })

  all_below_lem : all_below A B ≡ true → level a < level b
  all_below_lem e = let l = lt_yes A.high B.low p.high_word q.low_word e in omega arith

  none_below_lem : none_below A B ≡ true → level b ≤ level a
  none_below_lem e = let l = ge_yes A.low B.high p.low_word q.high_word e in omega arith

  hull_holds : Within (hull A B) a × Within (hull A B) b
  hull_holds =
      let l = lower A.low B.low p.low_word q.low_word (compare_of Lt B.low A.low) refl in
      let u = upper A.high B.high p.high_word q.high_word (compare_of Lt A.high B.high) refl in (
        record { low_word = l.0; high_word = u.0; word = p.word; above = le_trans l.1 p.above; under = le_trans p.under u.1 },
        record { low_word = l.0; high_word = u.0; word = q.word; above = le_trans l.2 q.above; under = le_trans q.under u.2 },
      )

module _ (A B : Range) (a b : ℕ) (p : Within A a) (q : Within B b) where
  disjoint_differ : disjoint A B ≡ true → eqb a b ≡ false
  disjoint_differ e = ne_eqb a b (λ s. go s (or_true (all_below A B) (all_below B A) e))
    where
      go : a ≡ b → (all_below A B ≡ true) ⊎ (all_below B A ≡ true) → ⊥
      go s (inl f) = let l = all_below_lem A B a b p q f in omega arith
      go s (inr f) = let l = all_below_lem B A b a q p f in omega arith

  lt_all : all_below A B ≡ true → compare_of Lt a b ≡ true
  lt_all e = lt_level a b p.word q.word ∙ lt-ltb (level a) (level b) (all_below_lem A B a b p q e)

  lt_none : none_below A B ≡ true → compare_of Lt a b ≡ false
  lt_none e = lt_level a b p.word q.word ∙ le-ltb (level a) (level b) (none_below_lem A B a b p q e)

  ge_all : none_below A B ≡ true → compare_of Ge a b ≡ true
  ge_all e = ge_level a b p.word q.word ∙ le-leb (level b) (level a) (none_below_lem A B a b p q e)

  ge_none : all_below A B ≡ true → compare_of Ge a b ≡ false
  ge_none e = ge_level a b p.word q.word ∙ lt-leb (level b) (level a) (all_below_lem A B a b p q e)

sx_holds : (A : Range) (a : ℕ) → Within A a → sx_of a < 2 ^ 32 → Within (sx_range A) (sx_of a)
sx_holds A a p h =
    let s = sx_level a p.word in
    chosen _ sixteen_bits A (sx_of a) (λ e. record { low_word = lit< tt; high_word = lit< tt; word = h; above = omega (arith, s.least); under = omega (arith, s.most) })
    (λ e.
    let f = or_false _ _ e in
    let l = lt_no A.low sixteen_bits.low p.low_word (lit< tt) f.0 in
    let u = lt_no sixteen_bits.high A.high (lit< tt) p.high_word f.1 in
    rw (s.same (omega arith) (omega arith)) p)

-- a comparison's value, where its verdict is right
verdict_holds : (all none t : Bool) → (all ≡ true → t ≡ true) → (none ≡ true → t ≡ false) → Within (verdict all none) (truth t)
verdict_holds all none t f g = bit (truth all) (truth t) (truth (not none)) (low all t f) (high none t g) (small (not none))
  where
    bit : (l x h : ℕ) → l ≤ x → x ≤ h → h ≤ 1 → Within (span l h) x
    bit l x h i j k =
        record { low_word = omega arith; high_word = omega arith; word = omega arith; above = omega arith; under = omega arith }

    low : (s t : Bool) → (s ≡ true → t ≡ true) → truth s ≤ truth t
    low true t f = rw (f refl) (omega arith)
    low false t f = omega arith

    high : (s t : Bool) → (s ≡ true → t ≡ false) → truth t ≤ truth (not s)
    high true t f = rw (f refl) (omega arith)
    high false true f = omega arith
    high false false f = omega arith

    small : (t : Bool) → truth t ≤ 1
    small true = omega arith
    small false = omega arith

-- a condition whose range has no 0 is not 0
not_zero : (A : Range) (a : ℕ) → Within A a → has_zero A ≡ false → eqb a 0 ≡ false
not_zero A a p e = ne_eqb a 0 (λ s. go s (and_false (compare_of Ge 0 A.low) (compare_of Ge A.high 0) e))
  where
    go : a ≡ 0 → (compare_of Ge 0 A.low ≡ false) ⊎ (compare_of Ge A.high 0 ≡ false) → ⊥
    go s (inl f) = let l = ge_no 0 A.low (lit< tt) p.low_word f in omega arith
    go s (inr f) = let l = ge_no A.high 0 p.high_word (lit< tt) f in omega arith

-- one that is only 0 is 0
only_zero : (A : Range) (a : ℕ) → Within A a → has_zero A ≡ true → is_single A ≡ true → eqb a 0 ≡ true
only_zero A a p e f =
    let g = ge_yes 0 A.low (lit< tt) p.low_word (and_left (compare_of Ge 0 A.low) (compare_of Ge A.high 0) e) in
    let k = ge_yes A.high 0 p.high_word (lit< tt) (and_right (compare_of Ge 0 A.low) (compare_of Ge A.high 0) e) in
    let s = eqb-true A.low A.high f in
    eq-eqb a 0 (omega arith)

-- either arm lies in a range that holds both
either_arm : (r : Range) (b c : ℕ) (t : Bool) → Within r b → Within r c → Within r (choose t c b)
either_arm r b c true p q = q
either_arm r b c false p q = p

select_holds : (A B C : Range) (a b c : ℕ) → Within A a → Within B b → Within C c → Within (select_range A B C) (choose (eqb a 0) c b)
select_holds A B C a b c p q r =
    let both = hull_holds B C b c q r in
    chosen _ _ B (choose (eqb a 0) c b)
    (λ e. chosen _ C _ (choose (eqb a 0) c b) (λ f. rw (only_zero A a p e f) r) (λ f. either_arm _ b c (eqb a 0) both.0 both.1))
    (λ e. rw (not_zero A a p e) q)

-- ---- the table

-- what a code gives is a word where the operands that it reads are
eval_word : (s k a b c : ℕ) → s < 2 ^ 32 → (0 < arity k → a < 2 ^ 32) → (1 < arity k → b < 2 ^ 32) → (2 < arity k → c < 2 ^ 32) → eval_of s k a b c < 2 ^ 32
eval_word s k a b c hs p q r =
    rw (eval_uses s a b c (a % 2 ^ 32) (b % 2 ^ 32) (c % 2 ^ 32) k (λ h. let w = p h in omega arith) (λ h. let w = q h in omega arith) (λ h. let w = r h in omega arith))
    (eval_lt s k (a % 2 ^ 32) (b % 2 ^ 32) (c % 2 ^ 32) hs (omega arith) (omega arith) (omega arith))

module _ (s : ℕ) (A B C : Range) (a b c : ℕ) where
  -- the word x lies in r where the first n operands lie in their ranges
  abbrev Rule : ℕ → Range → ℕ → Type 0
  Rule n r x = x < 2 ^ 32 → (0 < n → Within A a) → (1 < n → Within B b) → (2 < n → Within C c) → Within r x

  -- the rule at every place of three tables: arities, ranges and results
  data Rules : List ℕ → List Range → List ℕ → Type 0 where
    end : Rules [] [] []
    ◌then◌ : {n x : ℕ} {r : Range} {ns xs : List ℕ} {rs : List Range} → Rule n r x → Rules ns rs xs → Rules (n ∷ ns) (r ∷ rs) (x ∷ xs)

  infixr 67 ◌then◌
  at : {ns xs : List ℕ} {rs : List Range} → Rules ns rs xs → (k : ℕ) → Rule (get_or ns k 0) (get_or rs k full) (get_or xs k 0)
  at end k w p q r = full_holds 0 w
  at (h then t) zero w p q r = h w p q r
  at (h then t) (suc k) w p q r = at t k w p q r

  any : (n x : ℕ) → Rule n full x
  any n x w p q r = full_holds x w

  first : Rule 1 A a
  first w p q r = p (lit< tt)

  -- a comparison: what each verdict rests on
  test : (all none t : Bool) → (Within A a → Within B b → all ≡ true → t ≡ true) → (Within A a → Within B b → none ≡ true → t ≡ false) → Rule 2 (verdict all none) (truth t)
  test all none t f g w p q r = verdict_holds all none t (f (p (lit< tt)) (q (lit< tt))) (g (p (lit< tt)) (q (lit< tt)))

  never : {X : Type 0} → Within A a → Within B b → false ≡ true → X
  never p q e = absurd (false≢true e)

  table : Rules arities (rules A B C) (results s a b c)
  table =
      any 0 0
      then first
      then first
      then (λ w p q r. sum_holds A B a b (p (lit< tt)) (q (lit< tt)) w)
      then (λ w p q r. difference_holds A B a b (p (lit< tt)) (q (lit< tt)) w)
      then any 2 _
      then any 2 _
      then any 2 _
      then any 2 _
      then any 2 _
      then any 2 _
      then (λ w p q r. sx_holds A a (p (lit< tt)) w)
      then test false (disjoint A B) (compare_of Eq a b) never (λ p q. disjoint_differ A B a b p q)
      then test (disjoint A B) false (compare_of Ne a b) (λ p q e. ap not (disjoint_differ A B a b p q e)) never
      then test (all_below A B) (none_below A B) (compare_of Lt a b) (λ p q. lt_all A B a b p q) (λ p q. lt_none A B a b p q)
      then test (none_below A B) (all_below A B) (compare_of Ge a b) (λ p q. ge_all A B a b p q) (λ p q. ge_none A B a b p q)
      then test false false (compare_of Ltu a b) never never
      then test false false (compare_of Geu a b) never never
      then any 2 _
      then (λ w p q r. select_holds A B C a b c (p (lit< tt)) (q (lit< tt)) (r (lit< tt)))
      then any 0 _
      then end

  rule_holds : (k : ℕ) → Rule (arity k) (rule_of k A B C) (eval_of s k a b c)
  unfolding arity rule_of eval_of
  rule_holds k = at table k

  -- single operands are the words themselves
  single_operand : (n m : ℕ) (r : Range) (x : ℕ) → (ltb n m || is_single r) ≡ true → m ≤ n → Within r x → x ≡ r.low
  single_operand n m r x e h w = single_is r x w (rw (le-ltb n m h) at e)

  -- single operands give the exact word, whatever is sampled
  single_eval : (k : ℕ) → all_single (arity k) A B C ≡ true → (0 < arity k → Within A a) → (1 < arity k → Within B b) → (2 < arity k → Within C c)
      → eval_of s k a b c ≡ eval_of 0 k A.low B.low C.low
  single_eval k e p q r =
      let n = arity k in
      let x = leb 1 n && is_single A in
      let y = ltb n 2 || is_single B in
      let z = ltb n 3 || is_single C in
      let f = and_left (x && y) z e in
      let one = leb-true 1 n (and_left (leb 1 n) (is_single A) (and_left x y f)) in
      let g = and_right (leb 1 n) (is_single A) (and_left x y f) in
      eval_unsampled s 0 k a b c (omega arith)
      ∙ eval_uses 0 a b c A.low B.low C.low k
      (λ h. single_is A a (p h) g)
      (λ h. single_operand n 2 B b (and_right x y f) (omega arith) (q h))
      (λ h. single_operand n 3 C c (and_right (x && y) z e) (omega arith) (r h))

  -- where the operands that a code reads lie in their ranges, what it gives lies in its range, whatever is sampled
  pub range_holds : s < 2 ^ 32 → (k : ℕ) → (0 < arity k → Within A a) → (1 < arity k → Within B b) → (2 < arity k → Within C c) → Within (range_of k A B C) (eval_of s k a b c)
  unfolding range_of
  range_holds hs k p q r =
      let w = eval_word s k a b c hs (λ h. (p h).word) (λ h. (q h).word) (λ h. (r h).word) in
      chosen _ (exact (eval_of 0 k A.low B.low C.low)) (rule_of k A B C) (eval_of s k a b c)
      (λ e. rw (← single_eval k e p q r) (exact_holds (eval_of s k a b c) w))
      (λ e. rule_holds k w p q r)
