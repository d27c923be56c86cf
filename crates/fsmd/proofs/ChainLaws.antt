-- Chains of blocks: made from the last block down, gone along one block after another, and what is counted so. Assumes nothing.
use Prim.Native.Nat.{ℕ, ◌+◌, ◌-◌, ◌%◌, ◌≤◌, ◌<◌}
use native.Mathlib.Nat.{mod-eq_of_lt}
use native.Mathlib.Omega.{arith}
use mathlib.Core.Bool.{Bool, true, false, not}
use mathlib.Core.List.{List, [], ◌∷◌, map}
use mathlib.Core.Logic.{◌≢◌}
use mathlib.Core.Path.{◌≡◌, refl, sym, ap, ap₂, ◌∙◌, subst}
use lib.Dec.{eqb}
use lib.ListN.{length, get_or, set, take, drop, replicate, length-replicate, get_or-replicate, length-set, length-map}
use lib.Seq.{get_or-set_same, get_or-set_other, get_or-take}
use borrow.Author.Tests.{eq-eqb, ne_eqb, eqb-true}
use Rattle.word.specs.Word.{truth}
use Rattle.runs.proofs.ListLaws.{up_from_cons, up_from_done, length-up_from, length_only, length_only_map}
use Rattle.runs.proofs.MembershipLaws.{only_in, only_same, map_in, in_up_from}
use Rattle.runs.proofs.Sets.{In}
use Rattle.runs.proofs.Tests.{Compared, compared, same, other}
use Rattle.runs.specs.Lists.{up_from, keep, only}
use Rattle.fsmd.specs.Chains.{blocks_from, chain_words, Chain, Chained}
use Rattle.fsmd.specs.Clock.{read_in}
use Rattle.fsmd.specs.Layout.{max_states, max_blocks, max_registers, block_states_offset, arrivals_offset, absent, machine_words}
use Rattle.fsmd.specs.Machine.{State, worked, blocks_of, nonzero, blocks_run}
use Rattle.fsmd.specs.Table.{state_count, block_state_at, arrival_at, state_at, machine_of}
use Rattle.fsmd.proofs.Machines.{state_is}
use Rattle.fsmd.proofs.Windows.{window_at, window_any}

-- ---- the blocks of a state, from the last one down

module _ (t : List ℕ) (k : ℕ) where
  from_none : blocks_from t k max_blocks ≡ []
  unfolding blocks_from
  from_none = rw (up_from_done max_blocks max_blocks (omega arith))

  module _ (b : ℕ) (h : b < max_blocks) where
    from_next : blocks_from t k b ≡ keep (eqb (block_state_at t b) k) b (blocks_from t k (b + 1))
    unfolding blocks_from
    from_next = ap (only (λ x. eqb (block_state_at t x) k)) (up_from_cons b max_blocks h)

    from_mine : block_state_at t b ≡ k → blocks_from t k b ≡ b ∷ blocks_from t k (b + 1)
    from_mine e = from_next ∙ ap (λ (c : Bool). keep c b (blocks_from t k (b + 1))) (eq-eqb (block_state_at t b) k e)

    from_other : block_state_at t b ≢ k → blocks_from t k b ≡ blocks_from t k (b + 1)
    from_other f = from_next ∙ ap (λ (c : Bool). keep c b (blocks_from t k (b + 1))) (ne_eqb (block_state_at t b) k f)

-- ---- making them

-- a chain of blocks from b up depends only on the words of these
chain_same : (c d : List ℕ) (b : ℕ) → ((y : ℕ) → b ≤ y → get_or d (max_states + y) 0 ≡ get_or c (max_states + y) 0)
    → (x : ℕ) → b ≤ x → (xs : List ℕ) → Chain c x xs → Chain d x xs
chain_same c d b e x l [] h = h
chain_same c d b e x l (y ∷ ys) h =
    let m : b ≤ y = let z = h.0 in omega arith in
    let w = e y m in (
      h.0,
      h.1,
      rw w h.2,
      rw w (chain_same c d b e (get_or c (max_states + y) 0) (let z = h.2 in omega arith) ys h.3),
    )

pub chained_none : (t : List ℕ) → Chained t max_blocks (replicate chain_words max_blocks)
chained_none t =
    record {
      all = length-replicate {A = ℕ} chain_words max_blocks;
      low = λ k h. omega (arith, get_or-replicate {A = ℕ} chain_words k max_blocks 0 (omega arith));
      each = λ k h.
          let e : max_blocks ≤ get_or (replicate chain_words max_blocks) k 0 = omega (arith, get_or-replicate {A = ℕ} chain_words k max_blocks 0 (omega arith)) in
          subst (Chain (replicate chain_words max_blocks) (get_or (replicate chain_words max_blocks) k 0)) (sym (from_none t k)) e;
    }

module _ (t : List ℕ) (b : ℕ) (h : b < max_blocks) (c : List ℕ) (a : Chained t (b + 1) c) where
  -- a block that is in none of the states
  pub chained_skip : max_states ≤ block_state_at t b → Chained t b c
  chained_skip l =
      record {
        all = a.all;
        low = λ k q. let z = a.low k q in omega arith;
        each = λ k q. rw (from_other t k b h (λ e. absurd (omega arith))) (a.each k q);
      }

  -- a block of state k comes before those of k that are higher
  module _ (k : ℕ) (e : block_state_at t b ≡ k) (q : k < max_states) where
    abbrev linked : List ℕ
    linked = set (set c (max_states + b) (get_or c k 0)) k b

    linked_first : get_or linked k 0 ≡ b
    linked_first = get_or-set_same (set c (max_states + b) (get_or c k 0)) k b 0 (let z = a.all in rw length-set (omega arith))

    linked_other : (j : ℕ) → j < max_states → j ≢ k → get_or linked j 0 ≡ get_or c j 0
    linked_other j l f =
        get_or-set_other (set c (max_states + b) (get_or c k 0)) k j b 0 f
        ∙ get_or-set_other c (max_states + b) j (get_or c k 0) 0 (λ z. absurd (omega arith))

    linked_next : get_or linked (max_states + b) 0 ≡ get_or c k 0
    linked_next =
        get_or-set_other (set c (max_states + b) (get_or c k 0)) k (max_states + b) b 0 (λ z. absurd (omega arith))
        ∙ get_or-set_same c (max_states + b) (get_or c k 0) 0 (let z = a.all in omega arith)

    linked_higher : (y : ℕ) → b + 1 ≤ y → get_or linked (max_states + y) 0 ≡ get_or c (max_states + y) 0
    linked_higher y l =
        get_or-set_other (set c (max_states + b) (get_or c k 0)) k (max_states + y) b 0 (λ z. absurd (omega arith))
        ∙ get_or-set_other c (max_states + b) (max_states + y) (get_or c k 0) 0 (λ z. absurd (omega arith))

    kept : (j : ℕ) → j < max_states → Chain linked (get_or c j 0) (blocks_from t j (b + 1))
    kept j l = chain_same c linked (b + 1) linked_higher (get_or c j 0) (a.low j l) (blocks_from t j (b + 1)) (a.each j l)

    pub chained_put : Chained t b linked
    chained_put = record { all = rw (length-set, length-set) a.all; low = λ j l. low_at j l (compared j k); each = λ j l. each_at j l (compared j k) }
      where
        low_at : (j : ℕ) → j < max_states → Compared j k → b ≤ get_or linked j 0
        low_at j l (same s z) = rw (z, linked_first) (omega arith)
        low_at j l (other s z) = rw (linked_other j l z) (let y = a.low j l in omega arith)

        each_at : (j : ℕ) → j < max_states → Compared j k → Chain linked (get_or linked j 0) (blocks_from t j b)
        each_at j l (same s z) =
            rw (z, linked_first, from_mine t k b h e)
            (refl, h, rw linked_next (let y = a.low k q in omega arith), rw linked_next (kept k q))
        each_at j l (other s z) = rw (linked_other j l z, from_other t j b h (λ y. z (sym y ∙ e))) (kept j l)

-- ---- going along one: n are counted so far, and those of xs are to come

pub record Along (c : List ℕ) (p : ℕ → Bool) (all : List ℕ) (n x : ℕ) : Type 0 where
  pub left : List ℕ
  pub chain : Chain c x left
  pub counted : n + length (only p left) ≡ length (only p all)

length_keep : (p : ℕ → Bool) (b : Bool) (x : ℕ) (xs : List ℕ) → p x ≡ b → length (only p (x ∷ xs)) ≡ truth b + length (only p xs)
length_keep p true x xs e = rw e (omega arith)
length_keep p false x xs e = rw e (omega arith)

module _ (c : List ℕ) (p : ℕ → Bool) (all : List ℕ) where
  pub along_start : (x : ℕ) → Chain c x all → Along c p all 0 x
  along_start x h = record { left = all; chain = h; counted = omega arith }

  pub along_few : (n x : ℕ) → Along c p all n x → n ≤ length all
  along_few n x a = omega (arith, a.counted, length_only p all)

  module _ (n x : ℕ) (a : Along c p all n x) where
    pub along_end : max_blocks ≤ x → n ≡ length (only p all)
    along_end h = go a.left a.chain a.counted
      where
        go : (xs : List ℕ) → Chain c x xs → n + length (only p xs) ≡ length (only p all) → n ≡ length (only p all)
        go [] q e = omega arith
        go (y ∷ ys) q e = absurd (let z = q.0 in let w = q.1 in omega arith)

    module _ (h : x < max_blocks) where
      pub along_rises : x < get_or c (max_states + x) 0
      along_rises = go a.left a.chain
        where
          go : (xs : List ℕ) → Chain c x xs → x < get_or c (max_states + x) 0
          go [] q = absurd (omega arith)
          go (y ∷ ys) q = rw q.0 q.2

      pub along_next : Along c p all (n + truth (p x)) (get_or c (max_states + x) 0)
      along_next = go a.left a.chain a.counted
        where
          go : (xs : List ℕ) → Chain c x xs → n + length (only p xs) ≡ length (only p all) → Along c p all (n + truth (p x)) (get_or c (max_states + x) 0)
          go [] q e = absurd (omega arith)
          go (y ∷ ys) q e =
              rw q.0 (record {
                left = ys;
                chain = q.3;
                counted = let z = length_keep p (p y) y ys refl in omega arith;
              })

-- ---- the blocks of a state, all of them

module _ (t : List ℕ) (k : ℕ) where
  -- no state has more than there are
  pub few_blocks_lem : (b : ℕ) → length (blocks_from t k b) ≤ max_blocks
  unfolding blocks_from
  few_blocks_lem b = omega (arith, length_only (λ x. eqb (block_state_at t x) k) (up_from b (max_blocks - b)), length-up_from b (max_blocks - b))

  members_are : (b : ℕ) → In b (blocks_from t k 0) → (b < max_blocks) × (block_state_at t b ≡ k)
  unfolding blocks_from
  members_are b i =
      let r = only_in (λ x. eqb (block_state_at t x) k) (up_from 0 max_blocks) b i in
      ((in_up_from 0 max_blocks b r.0).1, eqb-true (block_state_at t b) k r.1)

  -- those of the table are those of its machine
  members_same : machine_words ≤ length t → blocks_from t k 0 ≡ blocks_of (machine_of t) k
  unfolding blocks_from blocks_of machine_of
  members_same whole =
      only_same (λ b. eqb (block_state_at t b) k) (λ b. eqb (get_or (take max_blocks (drop block_states_offset t)) b absent) k) (up_from 0 max_blocks)
      (λ b i. ap (λ (j : ℕ). eqb j k) (sym (window_any t block_states_offset max_blocks b absent (in_up_from 0 max_blocks b i).1 (omega arith))))

  arrivals_same : machine_words ≤ length t → map (arrival_at t) (blocks_from t k 0) ≡ map (λ b. get_or (machine_of t).arrivals b 0) (blocks_of (machine_of t) k)
  unfolding machine_of
  arrivals_same whole =
      map_in (arrival_at t) (λ b. get_or (take max_blocks (drop arrivals_offset t)) b 0) (blocks_from t k 0)
      (λ b i. sym (window_at t arrivals_offset max_blocks b (members_are b i).0))
      ∙ ap (map (λ b. get_or (take max_blocks (drop arrivals_offset t)) b 0)) (members_same whole)

  -- ---- how many are arrived at

  -- at most as many as there are blocks
  pub few_arrived : (env : List ℕ) → nonzero env (map (arrival_at t) (blocks_from t k 0)) ≤ max_blocks
  few_arrived env =
      let refs = map (arrival_at t) (blocks_from t k 0) in
      omega (arith, length_only (λ x. not (eqb (get_or env x 0) 0)) refs, length-map (blocks_from t k 0) (arrival_at t), few_blocks_lem 0)

  -- references of a state's wires are read in the room, as the code does it
  pub arrived_is : (l : List ℕ) (n : ℕ) → max_registers + n ≤ length l → ((b : ℕ) → b < max_blocks → block_state_at t b ≡ k → arrival_at t b < max_registers + n)
      → length (only (λ b. not (eqb (read_in l (arrival_at t b)) 0)) (blocks_from t k 0)) ≡ nonzero (take (max_registers + n) l) (map (arrival_at t) (blocks_from t k 0))
  arrived_is l n fits h =
      let env = take (max_registers + n) l in
      ap length (only_same (λ b. not (eqb (read_in l (arrival_at t b)) 0)) (λ b. not (eqb (get_or env (arrival_at t b) 0) 0)) (blocks_from t k 0)
      (λ b i.
      let m = members_are b i in
      let x : arrival_at t b < max_registers + n = h b m.0 m.1 in
      let e : arrival_at t b % length l ≡ arrival_at t b = mod-eq_of_lt (omega arith) in
      ap (λ (w : ℕ). not (eqb w 0)) (ap (λ (i : ℕ). get_or l i 0) e ∙ sym (get_or-take (max_registers + n) l (arrival_at t b) 0 x))))
      ∙ sym (length_only_map (λ x. not (eqb (get_or env x 0) 0)) (arrival_at t) (blocks_from t k 0))

  -- and so a cycle of the machine counts them
  pub arrived_run : machine_words ≤ length t → (sampled : ℕ) (rs : List ℕ) → k < state_count t
      → nonzero (worked sampled rs (state_at t k).wires) (map (arrival_at t) (blocks_from t k 0)) ≡ blocks_run (machine_of t) sampled k rs
  unfolding blocks_run
  arrived_run whole sampled rs h =
      ap₂ (λ (q : State) (refs : List ℕ). nonzero (worked sampled rs q.wires) refs) (sym (state_is t k h)) (arrivals_same whole)
