-- `bounds::operation::is_ordered` meets its contract: the pairs of the first words are tested one after another. Assumes nothing.
use Rattle.std.proofs.Common.{◌≡◌, ℕ, zero, suc, ◌≤◌, Bool, ◌&&◌, List, [], ◌∷◌, length, get_or, take, refl, ap, ◌∙◌, arith, rules}
use Rattle.std.specs.Iterator.Adapters.{zip_second}
use Rattle.std.specs.Slice.Iter.{iter_rest}
use Rattle.std.specs.List.{list_all, zip}
use Rattle.std.proofs.lemmas.Iterator.{YieldsList-from_slice, YieldsList-from_zip}
use Rattle.std.proofs.lemmas.Iterator.Consumers.{YieldsList-at}
use Rattle.std.proofs.lemmas.Iterator.Search.{all_from_yields_List}
use borrow.Author.Tests.{tests}
use Rattle.runs.specs.Lists.{up_from, every}
use Rattle.word.specs.Word.{compare_of}
use Rattle.word.specs.declared.Comparison.TheVariants.{Ge}
use Rattle.bounds.specs.Operation.{ordered}
use Rattle.bounds.proofs.operation.is_ordered.Goals as goal

-- a lowest and a highest word
abbrev in_order : ℕ × ℕ → Bool
in_order p = compare_of Ge p.1 p.0

every_suc : (p : ℕ → Bool) (a n : ℕ) → every (λ i. p (suc i)) (up_from a n) ≡ every p (up_from (suc a) n)
every_suc p a zero = refl
every_suc p a (suc n) = ap (λ (b : Bool). p (suc a) && b) (every_suc p (suc a) n)

pairs : (n : ℕ) (ls hs : List ℕ) → n ≤ length ls → n ≤ length hs → list_all in_order (zip (take n ls) (take n hs)) ≡ ordered n ls hs
pairs zero ls hs h k = refl
pairs (suc n) [] hs h k = absurd (omega arith)
pairs (suc n) (l ∷ ls) [] h k = absurd (omega arith)
pairs (suc n) (l ∷ ls) (m ∷ hs) h k =
    ap (λ (b : Bool). in_order (l, m) && b)
    (pairs n ls hs (omega arith) (omega arith) ∙ every_suc (λ i. in_order (get_or (l ∷ ls) i 0, get_or (m ∷ hs) i 0)) 0 n)

pub returns : goal.returns
returns c =
    let n = c.args.count in
    let ls = c.args.lowest.now in
    let hs = c.args.highest.now in
    let second : iter_rest (zip_second c.zip.result) ≡ take n hs = search rules in
    let road = YieldsList-from_zip (YieldsList-at c.zip.ensures.first (YieldsList-from_slice (take n ls) (search rules))) (YieldsList-from_slice (take n hs) second) in
    all_from_yields_List in_order c.all.new.self _ c.all.result c.all.ensures.ran road (λ x b q k. search (rules, tests))
    ∙ pairs n ls hs c.requires.lowest c.requires.highest
