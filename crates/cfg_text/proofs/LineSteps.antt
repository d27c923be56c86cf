-- One line more of the walk over a text, and what bounds the place reached. Assumes nothing.
use Rattle.std.proofs.Common.{◌≡◌, ℕ, suc, ◌+◌, ◌-◌, ◌≤◌, ◌<◌, Bool, true, false, ◌&&◌, leb, List, [], ◌∷◌, length, drop, length-drop, drop_of_length-le, drop-drop, sym, refl, ap, ◌∙◌, subst, arith, ne_eqb, leb-true}
use Rattle.std.specs.Prelude.{Option, Some, None, Ok, Err, IfSome, option_and_then}
use Rattle.refusal.specs.declared.Refusal.{Refusal}
use Rattle.refusal.specs.declared.Refusal.TheVariants.{NoForm}
use Rattle.word.specs.Word.{choose}
use Rattle.cfg.specs.Layout.{max_blocks, max_registers}
use Rattle.cfg_line.specs.declared.Keyword.{Keyword}
use Rattle.cfg_line.specs.declared.Keyword.TheVariants as keyword
use Rattle.cfg_line.specs.declared.Line.{Line}
use Rattle.cfg_line.specs.declared.Line.TheVariants as line
use Rattle.cfg_line.specs.declared.Parsed.{Parsed}
use Rattle.cfg_line.specs.Name.{keyword_of}
use Rattle.delimited.specs.Parts.{Fields, split_at}
use Rattle.delimited.specs.Cursor.{first_line, front_line}
use Rattle.delimited.proofs.Split.{parts, split_rest, split_alone}
use Rattle.cfg_line.specs.Form.{field, end, graph_line, form_of, by_name, line_form}
use Rattle.cfg_line.specs.Cursor.{parsed, parsed_at}
use Rattle.cfg_text.specs.ReadSteps.{FewBlocks}
use Rattle.cfg_text.specs.Walk.{Progress, Next, Reading, refused, next, finish, formed, proceed, walk}

-- ---- one line

-- on with what was parsed at the front of a text
abbrev pub after_line : Progress → ℕ → List ℕ → Option Parsed → Reading
after_line q n text None = refused NoForm n
after_line q n text (Some x) = proceed (next q x.line) n (λ p. walk p (suc n) (split_at 10 (drop x.next text)))

module _ (q : Progress) (n : ℕ) (text : List ℕ) (at : ℕ) where
  by_line :
      (y : Option Line) (from : ℕ) (ps : List (List ℕ)) → split_at 10 (drop from text) ≡ ps
      → proceed (formed y (next q)) n (λ p. walk p (suc n) ps) ≡ after_line q n text (parsed y from)
  by_line None from ps e = refl
  by_line (Some y) from ps e = ap (λ (r : List (List ℕ)). proceed (next q y) n (λ p. walk p (suc n) r)) (sym e)

  pub line_step : at < length text → walk q n (split_at 10 (drop at text)) ≡ after_line q n text (parsed_at by_name at (drop at text))
  unfolding walk parsed_at line_form
  line_step h =
      let p = parts 10 (drop at text) in
      by p.one p.others p.split
    where
      by :
          (l : List ℕ) (ls : List (List ℕ)) → split_at 10 (drop at text) ≡ l ∷ ls
          → walk q n (split_at 10 (drop at text)) ≡ after_line q n text (parsed_at by_name at (drop at text))
      by l [] e =
          let a : l ≡ drop at text = split_alone 10 (drop at text) e in
          let z : length l ≡ length text - at = ap length a ∙ length-drop at text in
          rw (e, ne_eqb (length l) 0 (λ y. omega arith))
      by l (m ∷ ms) e =
          let g : at + length l + 1 ≡ at + suc (length l) = omega arith in
          rw e
          (by_line (line_form l) (at + length l + 1) (m ∷ ms)
          (ap (λ (k : ℕ). split_at 10 (drop k text)) g ∙ ap (split_at 10) (sym (drop-drop (suc (length l)) at text)) ∙ split_rest 10 (drop at text) e))

-- the end of the text
pub walk_end : (q : Progress) (n : ℕ) (text : List ℕ) (at : ℕ) → length text ≤ at → walk q n (split_at 10 (drop at text)) ≡ finish q n
unfolding walk split_at
walk_end q n text at h = rw (drop_of_length-le text h)

-- what was parsed at the front of a text is a form of its first line, which is passed
pub record First (at : ℕ) (x : Parsed) : Type 0 where
  pub fields : Fields
  pub formed : by_name fields ≡ Some x.line
  pub ahead : at < x.next

parsed_first : (o : Option Line) (n : ℕ) {x : Parsed} → parsed o n ≡ Some x → (o ≡ Some x.line) × (n ≡ x.next)
parsed_first None n e = absurd (cc)
parsed_first (Some l) n {x} e =
    let s : record { line = l; next = n } ≡ x = cc in
    (ap (λ (y : Parsed). Some y.line) s, ap (λ (y : Parsed). y.next) s)

pub first_of : (at : ℕ) (s : List ℕ) {x : Parsed} → parsed_at by_name at s ≡ Some x → First at x
unfolding parsed_at front_line
first_of at s {x} e = by (split_at 10 s) e
  where
    by : (ps : List (List ℕ)) → first_line None (λ fs. parsed (by_name fs)) at ps ≡ Some x → First at x
    by [] e = absurd (cc)
    by (l ∷ []) e = absurd (cc)
    by (l ∷ m ∷ ms) e =
        let p = parsed_first (by_name (split_at 44 l)) (at + length l + 1) e in
        let n = p.1 in
        record { fields = split_at 44 l; formed = p.0; ahead = omega arith }

-- ---- a graph line has at most 64 blocks

few_field : (take : List ℕ → Option ℕ) (k : ℕ → Fields → Option Line) → ((v : ℕ) (fs : Fields) → IfSome (k v fs) FewBlocks) → (fs : Fields) → IfSome (field take k fs) FewBlocks
few_field take k h [] = tt
few_field take k h (f ∷ fs) = by (take f)
  where
    by : (o : Option ℕ) → IfSome (option_and_then (λ v. k v fs) o) FewBlocks
    by None = tt
    by (Some v) = h v fs

few_end : (o : Option Line) → IfSome o FewBlocks → (fs : Fields) → IfSome (end o fs) FewBlocks
few_end o h [] = h
few_end o h (f ∷ fs) = tt

few_graph : (b r : ℕ) → IfSome (graph_line b r) FewBlocks
few_graph b r = by (leb b max_blocks) refl (leb 1 b) (leb 1 r) (leb r max_registers)
  where
    by : (t : Bool) → leb b max_blocks ≡ t → (s u v : Bool) → IfSome (choose (s && t && u && v) (Some (line.Graph b r)) None) FewBlocks
    by t e false u v = tt
    by true e true false v = tt
    by true e true true false = tt
    by true e true true true = leb-true b max_blocks e
    by false e true u v = tt

few_form : (w : Keyword) (fs : Fields) → IfSome (form_of w fs) FewBlocks
unfolding form_of
few_form keyword.Graph = few_field _ _ (λ b. few_field _ _ (λ r. few_end (graph_line b r) (few_graph b r)))
few_form keyword.Block = few_field _ _ (λ n. few_end (Some (line.Block n)) tt)
few_form keyword.Goto = few_field _ _ (λ t. few_end (Some (line.Goto t)) tt)
few_form keyword.Ite = few_field _ _ (λ c. few_field _ _ (λ a. few_field _ _ (λ b. few_field _ _ (λ t. few_field _ _ (λ f. few_end _ tt)))))
few_form keyword.Halt = few_end (Some line.Halt) tt
few_form keyword.Set = few_field _ _ (λ d. few_field _ _ (λ a. few_end _ tt))
few_form keyword.In = few_field _ _ (λ d. few_end _ tt)
few_form (keyword.Unary k) = few_field _ _ (λ d. few_field _ _ (λ a. few_end _ tt))
few_form (keyword.Binary k) = few_field _ _ (λ d. few_field _ _ (λ a. few_field _ _ (λ b. few_end _ tt)))

pub few_line : (at : ℕ) {x : Parsed} → First at x → FewBlocks x.line
unfolding by_name
few_line at {x} f = by f.fields f.formed
  where
    few_name : (o : Option Keyword) (fs : Fields) → IfSome (option_and_then (λ k. form_of k fs) o) FewBlocks
    few_name None fs = tt
    few_name (Some k) fs = few_form k fs

    by : (fs : Fields) → by_name fs ≡ Some x.line → FewBlocks x.line
    by [] e = absurd (cc)
    by (g ∷ fs) e = subst (λ (o : Option Line). IfSome o FewBlocks) e (few_name (keyword_of g) fs)

-- ---- a test that is passed where reading goes on

pub chosen : (t : Bool) (x : Next) (m : Refusal) (p : Progress) → choose t x (Err m) ≡ Ok p → (t ≡ true) × (x ≡ Ok p)
chosen true x m p e = (refl, e)
chosen false x m p e = absurd (cc)
