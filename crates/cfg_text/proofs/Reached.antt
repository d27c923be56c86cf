-- Where reading stands between two lines: the walk from here gives what the whole text gives. Assumes nothing.
use Rattle.std.proofs.Common.{◌≡◌, ℕ, suc, ◌+◌, ◌≤◌, ◌<◌, List, length, drop, sym, refl, ap, ◌∙◌, add-one, arith}
use Rattle.std.specs.Prelude.{Option, Some, None, Result, Ok, Err, MatchResult}
use Rattle.refusal.specs.declared.Refusal.{Refusal}
use Rattle.refusal.specs.declared.Refusal.TheVariants.{NoForm}
use Rattle.delimited.specs.Parts.{split_at}
use Rattle.cfg_line.specs.declared.Parsed.{Parsed}
use Rattle.cfg_line.specs.Form.{by_name}
use Rattle.cfg_line.specs.Cursor.{parsed_at}
use Rattle.cfg_text.specs.declared.state.ReadState.{ReadState}
use Rattle.cfg_text.specs.declared.state.ReadState.TheVariants as state
use Rattle.cfg_text.specs.declared.ReadError.{ReadError}
use Rattle.cfg_text.specs.Walk.{Progress, start, Next, next, finish, proceed, walk}
use Rattle.cfg_text.specs.Read.{read_text}
use Rattle.cfg_text.specs.ReadSteps.{filled, StandsAfter, Advances, AnswersReading, FewBlocks}
use Rattle.cfg_text.proofs.Steps.{refusal}
use Rattle.cfg_text.proofs.LineSteps.{after_line, line_step, walk_end, first_of, few_line}

pub record Reached (text w : List ℕ) (p : ReadState) (at n : ℕ) : Type 0 where
  pub progress : Progress
  pub stands : StandsAfter p w progress
  pub going : walk progress n (split_at 10 (drop at text)) ≡ read_text text
  pub line : n ≤ at + 1

pub reached_start : (text w : List ℕ) → w ≡ filled start → Reached text w state.Start 0 1
unfolding read_text
reached_start text w e =
    record {
      progress = start;
      stands = record { place = tt; words = e; whole = refl; few = omega arith };
      going = refl;
      line = omega arith;
    }

-- ---- what the steps' answers say of the reading's

-- the step's refusal, at line n
abbrev pub Told : Result ReadState Refusal → ℕ → Result ReadState ReadError → Type 0
Told s n m = MatchResult s (λ x. m ≡ Ok x) (λ e. m ≡ Err (record { refusal = e; line = n }))

module _ (text w : List ℕ) (p : ReadState) (at n : ℕ) (R : Reached text w p at n) where
  -- the text has ended
  pub reached_end : (r : Result Unit ReadError) → length text ≤ at → AnswersReading r w (finish R.progress n) → AnswersReading r w (read_text text)
  reached_end r h x =
      let e : finish R.progress n ≡ read_text text = sym (walk_end R.progress n text at h) ∙ R.going in
      record { answer = rw e at x.answer; words = λ g y. x.words g (e ∙ y) }

  module _ (h : at < length text) (v : List ℕ) where
    on_line : (o : Option Parsed) → parsed_at by_name at (drop at text) ≡ o → after_line R.progress n text o ≡ read_text text
    on_line o e = ap (after_line R.progress n text) (sym e) ∙ sym (line_step R.progress n text at h) ∙ R.going

    -- a line of no form
    pub reached_none : parsed_at by_name at (drop at text) ≡ None → AnswersReading (Err (record { refusal = NoForm; line = n })) v (read_text text)
    reached_none e = refusal NoForm n v (sym (on_line None e))

    module _ (x : Parsed) (e : parsed_at by_name at (drop at text) ≡ Some x) where
      pub reached_ahead : at < x.next
      reached_ahead = (first_of at (drop at text) e).ahead

      pub reached_few : FewBlocks x.line
      reached_few = few_line at (first_of at (drop at text) e)

      -- the next line
      pub reached_next : (s : Result ReadState Refusal) (m : Result ReadState ReadError) {q : ReadState} → Told s n m → m ≡ Ok q
          → Advances s v (next R.progress x.line) → Reached text v q x.next (n + 1)
      reached_next (Err k) m t h a = let z = sym t ∙ h in absurd (cc)
      reached_next (Ok o) m {q} t h a =
          let z = sym t ∙ h in
          let i : o ≡ q = cc in
          by (next R.progress x.line) refl (rw i at a)
        where
          by : (y : Next) → next R.progress x.line ≡ y → Advances (Ok q) v y → Reached text v q x.next (n + 1)
          by (Err m) g s = absurd s
          by (Ok z) g s =
              let f = first_of at (drop at text) e in
              let l = f.ahead in
              let u = R.line in
              record {
                progress = z;
                stands = s;
                going = rw add-one (ap (λ (y : Next). proceed y n (λ k. walk k (suc n) (split_at 10 (drop x.next text)))) (sym g) ∙ on_line (Some x) e);
                line = omega arith;
              }

      -- a line that is refused
      pub reached_stop : (s : Result ReadState Refusal) (m : Result ReadState ReadError) {d : ReadError} → Told s n m → m ≡ Err d
          → Advances s v (next R.progress x.line) → AnswersReading (Err d) v (read_text text)
      reached_stop (Ok q) m t h a = let z = sym t ∙ h in absurd (cc)
      reached_stop (Err k) m {d} t h a = by (next R.progress x.line) refl a
        where
          by : (y : Next) → next R.progress x.line ≡ y → Advances (Err k) v y → AnswersReading (Err d) v (read_text text)
          by (Ok z) g s = absurd s
          by (Err f) g s =
              let z = sym t ∙ h in
              let i : record { refusal = k; line = n } ≡ d = cc in
              rw (sym i, s) (refusal f n v (sym (on_line (Some x) e) ∙ ap (λ (y : Next). proceed y n (λ z. walk z (suc n) (split_at 10 (drop x.next text)))) g))
