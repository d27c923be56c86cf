-- What each step of reading does is what the definition does. Assumes nothing.
use Rattle.std.proofs.Common.{◌≡◌, ℕ, ◌+◌, ◌-◌, ◌*◌, ◌≤◌, ◌<◌, Bool, true, false, List, [], ◌∷◌, ◌++◌, take, drop, drop-drop, length, length-append, append_assoc, sym, refl, ap, ◌∙◌, arith, eq-eqb, ne_eqb, le-ltb}
use Rattle.std.specs.Prelude.{Ok, Err, Result}
use borrow.Author.Tests.{lt-ltb}
use lib.Seq.{sets, sets-eq}
use borrow.Rule.Slice.PartMut.{put_mid}
use Rattle.refusal.specs.declared.Refusal.{Refusal}
use Rattle.refusal.specs.declared.Refusal.TheVariants.{NotDue, NoRegister, NoTarget}
use Rattle.runs.proofs.ListLaws.{every_snoc, length_padded}
use Rattle.runs.specs.Lists.{padded}
use Rattle.word.specs.Word.{choose}
use Rattle.cfg.specs.Layout.{max_instructions, block_offset, code_offset, instruction_words, ending_words}
use Rattle.cfg.specs.Graph.{CFG, no_instruction, targets}
use Rattle.cfg.specs.Table.{instruction_words_of, ending_words_of, graph_table_of}
use Rattle.cfg.specs.declared.Instruction.{Instruction}
use Rattle.cfg.specs.declared.Ending.{Ending}
use Rattle.cfg.specs.declared.Ending.TheVariants as ending
use Rattle.cfg.specs.declared.Block.{Block}
use Rattle.cfg_text.specs.declared.state.BlocksRead.{BlocksRead}
use Rattle.cfg_text.specs.declared.state.OpenBlock.{OpenBlock}
use Rattle.cfg_text.specs.declared.state.ReadState.TheVariants as state
use Rattle.cfg_text.specs.Walk.{Progress, start, between, inside, Reading, refused, all_below, instruction_registers, ending_registers, opened, joined, closed, block_with, finish}
use Rattle.cfg_text.specs.ReadSteps.{sized, StandsAfter, Advances, AnswersReading, ending_check, ended_at}
use Rattle.cfg_text.proofs.Stores.{opened_words, joined_words, closed_words, table_words}

-- ---- the code's place is of one kind only

pub only_between :
    (P : Progress → Type 0) {w : List ℕ} {p : BlocksRead} (q : Progress) → StandsAfter (state.Between p) w q
    → ((b r : ℕ) (bs : List Block) → StandsAfter (state.Between p) w (between b r bs) → P (between b r bs)) → P q
only_between P start s k = absurd s.place
only_between P (between b r bs) s k = k b r bs s
only_between P (inside b r bs is) s k = absurd s.place

-- ---- words stored one behind another

pub stored : (w vs : List ℕ) (at e : ℕ) {ys : List ℕ} → e ≡ at + length vs → e ≤ length w → ys ≡ vs → put_mid at (e - at) w ys ≡ sets w at vs
stored w vs at e g h y =
    let n : e - at ≡ length vs = omega arith in
    rw (y, n)
    (ap (λ (l : List ℕ). take at w ++ (vs ++ l)) (drop-drop (length vs) at w)
    ∙ sym (append_assoc (take at w) vs (drop (at + length vs) w))
    ∙ sym (sets-eq vs w at (omega arith)))

pub ending_length : (e : Ending) → length (ending_words_of e) ≡ ending_words
ending_length (ending.Goto t) = refl
ending_length (ending.Ite c t f) = refl
ending_length ending.Halt = refl

-- ---- a block begins

one_more : {A : Type 0} (xs : List A) (y : A) → length xs + 1 ≡ length (xs ++ (y ∷ []))
one_more xs y = rw length-append (omega arith)

module _ (p : BlocksRead) (w : List ℕ) (b r : ℕ) (bs : List Block) (s : StandsAfter (state.Between p) w (between b r bs)) where
  pub begins : (k : OpenBlock) → k.before ≡ p → k.count ≡ 0 → p.done < p.blocks → Advances (Ok (state.Inside k)) w (opened p.done b r bs)
  begins k e c l =
      rw (eq-eqb p.done (length bs) s.place.2, lt-ltb p.done b (rw s.place.0 at l))
      (record { place = (rw e s.place, c); words = s.words ∙ opened_words b r bs s.whole; whole = s.whole; few = omega arith })

  pub other_block : (n : ℕ) → (n ≡ p.done → ⊥) → opened n b r bs ≡ Err NotDue
  other_block n h = rw (ne_eqb n (length bs) (λ e. h (e ∙ sym s.place.2)))

  pub past_block : (n : ℕ) → n ≡ p.done → p.blocks ≤ n → opened n b r bs ≡ Err NotDue
  past_block n e l = rw (eq-eqb n (length bs) (e ∙ s.place.2), le-ltb n b (rw s.place.0 at l))

-- ---- in a block

module _ (k : OpenBlock) (w : List ℕ) (b r : ℕ) (bs : List Block) (is : List Instruction) (s : StandsAfter (state.Inside k) w (inside b r bs is)) where
  in_blocks : k.before.blocks ≡ b
  in_blocks = s.place.0.0

  in_registers : k.before.registers ≡ r
  in_registers = s.place.0.1

  in_done : k.before.done ≡ length bs
  in_done = s.place.0.2

  in_count : k.count ≡ length is
  in_count = s.place.1

  pub ninth : (i : Instruction) → 8 ≤ k.count → joined i b r bs is ≡ Err NotDue
  ninth i h = rw (le-ltb (length is) 8 (rw in_count at h))

  pub joins : (i : Instruction) (v : List ℕ) (j : OpenBlock) → k.count < 8 → all_below k.before.registers (instruction_registers i) ≡ true
      → j.before ≡ k.before → j.count ≡ k.count + 1
      → v ≡ sets w (block_offset k.before.done + code_offset + instruction_words * k.count) (instruction_words_of i)
      → Advances (Ok (state.Inside j)) v (joined i b r bs is)
  joins i v j h e same more ev =
      rw (lt-ltb (length is) 8 (rw in_count at h), ap (λ (n : ℕ). all_below n (instruction_registers i)) (sym in_registers) ∙ e)
      (record {
        place = (rw same s.place.0, more ∙ ap (λ (n : ℕ). n + 1) in_count ∙ one_more is i);
        words = ev ∙ rw (s.words, in_done, in_count) (joined_words b r bs s.whole is i);
        whole = s.whole;
        few = let l : length is < 8 = rw in_count at h in omega (arith, length-append is (i ∷ []));
      })

  module _ (e : Ending) where
    -- what the check says of the code's B and R it says of the definition's
    checked : {c : Result Unit Refusal} → ending_check k.before.blocks k.before.registers e ≡ c → ending_check b r e ≡ c
    checked h = rw (in_blocks, in_registers) at h

    pub not_closed : {d : Refusal} → ending_check k.before.blocks k.before.registers e ≡ Err d → closed e b r bs is ≡ Err d
    not_closed {d} h = go (all_below r (ending_registers e)) (all_below b (targets e)) (checked h)
      where
        go :
            (s t : Bool) → choose s (choose t (Ok (tt {0})) (Err NoTarget)) (Err NoRegister) ≡ Err d
            → choose s (choose t (Ok (between b r (bs ++ (block_with is e ∷ [])))) (Err NoTarget)) (Err NoRegister) ≡ Err d
        go true true g = absurd (cc)
        go true false g = let z : NoTarget ≡ d = cc in ap (λ (x : Refusal). Err x) z
        go false t g = let z : NoRegister ≡ d = cc in ap (λ (x : Refusal). Err x) z

    pub closes : (v : List ℕ) (p : BlocksRead) {u : Unit} → ending_check k.before.blocks k.before.registers e ≡ Ok u
        → p.blocks ≡ k.before.blocks → p.registers ≡ k.before.registers → p.done ≡ k.before.done + 1
        → v ≡ ended_at w k.before.done k.count (ending_words_of e)
        → Advances (Ok (state.Between p)) v (closed e b r bs is)
    closes v p {u} h eb er ed ev = go (all_below r (ending_registers e)) (all_below b (targets e)) (checked h)
      where
        stands : StandsAfter (state.Between p) v (between b r (bs ++ (block_with is e ∷ [])))
        stands =
            record {
              place = (eb ∙ in_blocks, er ∙ in_registers, ed ∙ ap (λ (n : ℕ). n + 1) in_done ∙ one_more bs (block_with is e));
              words = ev ∙ rw (s.words, in_done, in_count) (closed_words b r bs s.whole is e s.few);
              whole = every_snoc sized bs (block_with is e) s.whole (eq-eqb (length (padded max_instructions no_instruction is)) max_instructions (length_padded max_instructions no_instruction is));
              few = omega arith;
            }

        go :
            (s t : Bool) → choose s (choose t (Ok (tt {0})) (Err NoTarget)) (Err NoRegister) ≡ Ok u
            → Advances (Ok (state.Between p)) v (choose s (choose t (Ok (between b r (bs ++ (block_with is e ∷ [])))) (Err NoTarget)) (Err NoRegister))
        go true true g = stands
        go true false g = absurd (cc)
        go false t g = absurd (cc)

-- ---- the end of the text

pub refusal : (k : Refusal) (n : ℕ) (w : List ℕ) {x : Reading} → x ≡ refused k n → AnswersReading (Err (record { refusal = k; line = n })) w x
refusal k n w e = rw e (record { answer = refl; words = λ g h. absurd (cc) })

pub finished : (p : BlocksRead) (w : List ℕ) (b r : ℕ) (bs : List Block) (n : ℕ) → StandsAfter (state.Between p) w (between b r bs) → p.done ≡ p.blocks
    → AnswersReading (Ok tt) w (finish (between b r bs) n)
finished p w b r bs n s h =
    let e : length bs ≡ b = sym s.place.2 ∙ h ∙ s.place.0 in
    rw (eq-eqb (length bs) b e)
    (record { answer = refl; words = λ g x. s.words ∙ table_words b r bs s.whole e ∙ ap graph_table_of (same_graph x) })
  where
    same_graph : {f g : CFG} → ◌≡◌ {A = Reading} (Ok f) (Ok g) → f ≡ g
    same_graph x = cc
