-- The wires that synthesis adds by itself at each step of a state's making: which codes they have. Assumes nothing.
use Prim.Native.Nat.{ℕ}
use mathlib.Core.Logic.{◌≢◌}
use mathlib.Core.Path.{◌≡◌, refl, sym, ap, ◌∙◌}
use mathlib.Core.Bool.{Bool, true, false}
use mathlib.Core.List.{List, [], ◌∷◌, ◌++◌, append_assoc, append-nil}
use Rattle.word.specs.Word.{comparison_code}
use Rattle.word.specs.declared.Comparison.{Comparison}
use Rattle.word.specs.declared.Comparison.TheVariants.{Eq, Ne, Lt, Ge, Ltu, Geu}
use Rattle.runs.specs.Lists.{mem, every}
use Rattle.runs.proofs.ListLaws.{and_both, every_append}
use Rattle.runs.proofs.RunLaws.{false_true}
use Rattle.cfg.specs.declared.Ending.{Ending}
use Rattle.cfg.specs.declared.Ending.TheVariants.{Goto, Ite, Halt}
use Rattle.fsmd.specs.declared.Wire.{Wire}
use Rattle.grouping.specs.Grouping.{Groups}
use Rattle.state.specs.Wires.{set_wire, selects, Edge, BlockBuild, StateBuild, join, joins, arrive, start_block, enter, close, leads_to, towards, exit, exits, close_state}

-- their codes: set, and, or, the comparisons, and not, select
abbrev pub added : List ℕ
added = 1 ∷ 5 ∷ 6 ∷ 12 ∷ 13 ∷ 14 ∷ 15 ∷ 16 ∷ 17 ∷ 18 ∷ 19 ∷ []

abbrev pub Own : ℕ → Type 0
Own k = mem k added ≡ true

-- no code that is not among them
pub own_not : (k c : ℕ) → mem c added ≡ false → Own k → k ≢ c
own_not k c n h e = absurd (false_true {b = mem c added} n (ap (λ (i : ℕ). mem i added) (sym e) ∙ h))

comparison_own : (q : Comparison) → Own (comparison_code q)
comparison_own Eq = refl
comparison_own Ne = refl
comparison_own Lt = refl
comparison_own Ge = refl
comparison_own Ltu = refl
comparison_own Geu = refl

abbrev pub OwnWires : List Wire → Type 0
OwnWires ws = every (λ w. mem w.code added) ws ≡ true

own_selects : (t : ℕ) (vs ss : List ℕ) → OwnWires (selects t vs ss)
own_selects t [] ss = refl
own_selects t (v ∷ vs) [] = refl
own_selects t (v ∷ vs) (s ∷ ss) = own_selects t vs ss

-- ---- a step that adds none but those

pub record Grown (before now : List Wire) : Type 0 where
  pub more : List Wire
  pub own : OwnWires more
  pub wires : now ≡ before ++ more

same : (ws : List Wire) → Grown ws ws
same ws = record { more = []; own = refl; wires = sym (append-nil ws) }

grow : (ws vs : List Wire) → OwnWires vs → Grown ws (ws ++ vs)
grow ws vs a = record { more = vs; own = a; wires = refl }

both : {ws vs us : List Wire} → Grown ws vs → Grown vs us → Grown ws us
both {ws} {vs} {us} a b =
    let p : Wire → Bool = λ w. mem w.code added in
    record {
      more = a.more ++ b.more;
      own = every_append p a.more b.more ∙ and_both (every p a.more) (every p b.more) a.own b.own;
      wires = b.wires ∙ ap (λ (l : List Wire). l ++ b.more) a.wires ∙ append_assoc ws a.more b.more;
    }

joins_grown : (es : List Edge) (p : BlockBuild) → Grown p.wires (joins es p).wires
unfolding joins join
joins_grown [] p = same p.wires
joins_grown (e ∷ es) p = both (grow p.wires _ (own_selects e.taken e.values p.values)) (joins_grown es (join e p))

pub arrive_grown : (r : ℕ) (es : List Edge) (ws : List Wire) → Grown ws (arrive r es ws).wires
unfolding arrive
arrive_grown r [] ws = grow ws (set_wire 0 ∷ []) refl
arrive_grown r (e ∷ es) ws = joins_grown es (record { arrival = e.taken; values = e.values; wires = ws })

pub start_grown : (r : ℕ) (ws : List Wire) → Grown ws (start_block r ws).wires
unfolding start_block
start_grown r ws = grow ws (set_wire 1 ∷ []) refl

pub enter_grown : (r : ℕ) (c : Bool) (x : ℕ) (b : StateBuild) → Grown b.wires (enter r c x b).wires
unfolding enter
enter_grown r true x b = start_grown r b.wires
enter_grown r false x b = arrive_grown r (towards (leads_to x) b.edges) b.wires

pub close_grown : (e : Ending) (p : BlockBuild) → Grown p.wires (close e p).wires
unfolding close
close_grown (Goto t) p = same p.wires
close_grown (Ite c t f) p = grow p.wires _ (and_both (mem (comparison_code c.comparison) added) true (comparison_own c.comparison) refl)
close_grown Halt p = same p.wires

exits_grown : (s : Groups) (es : List Edge) (p : BlockBuild) → Grown p.wires (exits s es p).wires
unfolding exits exit
exits_grown s [] p = same p.wires
exits_grown s (e ∷ es) p = both (grow p.wires _ (own_selects e.taken e.values p.values)) (exits_grown s es (exit s e p))

pub close_state_grown : (s : Groups) (es : List Edge) (ws : List Wire) → Grown ws (close_state s es ws).wires
unfolding close_state
close_state_grown s [] ws = same ws
close_state_grown s (e ∷ es) ws = both (grow ws _ refl) (exits_grown s es _)
