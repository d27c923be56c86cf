-- The text of a table's blocks, one instruction and one block after another. Assumes nothing.
use Prim.Native.Nat.{ℕ, zero, suc, ◌+◌, ◌<◌}
use native.Mathlib.Numerals.{add-one}
use native.Mathlib.Omega.{arith}
use native.Mathlib.Nat.{add-zero}
use mathlib.Core.Path.{◌≡◌, refl, sym, ap, ◌∙◌}
use mathlib.Core.List.{List, [], ◌∷◌, ◌++◌, map, append-nil, append_assoc, map-append}
use lib.ListN.{length, get_or, take}
use Rattle.std.proofs.lemmas.List.{take_more}
use Rattle.runs.specs.Lists.{up_from, concat_map}
use Rattle.runs.proofs.ListLaws.{concat_append}
use Rattle.cfg.proofs.Words.{blocks_are}
use Rattle.cfg.specs.declared.Instruction.{Instruction}
use Rattle.cfg.specs.declared.Block.{Block}
use Rattle.cfg.specs.Graph.{no_instruction, instructions_of}
use Rattle.cfg.specs.Table.{block_at, graph_of}
use Rattle.cfg.proofs.Admitted.{blocks_length, registers_are}
use Rattle.delimited.specs.Parts.{bytes}
use Rattle.cfg_line.specs.declared.Line.{Line}
use Rattle.cfg_line.specs.declared.Line.TheVariants as line
use Rattle.cfg_write.specs.Write.{ending_line, block_lines, lines_from, line_text, text_of}
use Rattle.cfg_write.specs.Put.{numbered, lines_text}
use Rattle.cfg_write.proofs.PutLaws.{block_text}

one_line : (l : Line) → lines_text (l ∷ []) ≡ line_text l
unfolding concat_map
one_line l = append-nil (line_text l)

-- the lines of some instructions
abbrev pub code_text : List Instruction → List ℕ
code_text is = lines_text (map line.Instruction is)

pub no_code : ◌≡◌ {A = List ℕ} [] (code_text [])
unfolding concat_map
no_code = refl

-- one instruction more
pub code_more : (is : List Instruction) (i : ℕ) → i < length is
    → code_text (take i is) ++ line_text (line.Instruction (get_or is i no_instruction)) ≡ code_text (take (i + 1) is)
code_more is i h =
    let here = line.Instruction (get_or is i no_instruction) in
    sym (ap code_text (take_more is i no_instruction h)
    ∙ ap lines_text (map-append line.Instruction (take i is) (get_or is i no_instruction ∷ []))
    ∙ concat_append line_text (map line.Instruction (take i is)) (here ∷ [])
    ∙ ap (λ (s : List ℕ). code_text (take i is) ++ s) (one_line here))

-- one block
pub block_is : (n : ℕ) (b : Block) → numbered (bytes "block") n ++ (code_text (instructions_of b) ++ line_text (ending_line b.ending)) ≡ lines_text (block_lines n b)
unfolding concat_map
block_is n b =
    let code = map line.Instruction (instructions_of b) in
    let end = ending_line b.ending in
    rw (block_text n)
    (ap (λ (s : List ℕ). line_text (line.Block n) ++ s) (sym (concat_append line_text code (end ∷ []) ∙ ap (λ (s : List ℕ). lines_text code ++ s) (one_line end))))

-- the lines of a table's first blocks, and of one more
abbrev pub blocks_text : List ℕ → ℕ → List ℕ
blocks_text t n = lines_text (lines_from 0 (map (block_at t) (up_from 0 n)))

lines_more : (t : List ℕ) (k n : ℕ)
    → lines_from k (map (block_at t) (up_from k (suc n))) ≡ lines_from k (map (block_at t) (up_from k n)) ++ block_lines (k + n) (block_at t (k + n))
unfolding lines_from
lines_more t k zero = append-nil (block_lines k (block_at t k)) ∙ rw add-zero
lines_more t k (suc n) =
    let e : suc k + n ≡ k + suc n = omega arith in
    ap (λ (l : List Line). block_lines k (block_at t k) ++ l) (lines_more t (suc k) n)
    ∙ rw e (sym (append_assoc (block_lines k (block_at t k)) (lines_from (suc k) (map (block_at t) (up_from (suc k) n))) (block_lines (k + suc n) (block_at t (k + suc n)))))

pub blocks_more : (t : List ℕ) (n : ℕ) → blocks_text t n ++ lines_text (block_lines n (block_at t n)) ≡ blocks_text t (n + 1)
blocks_more t n =
    let e : 0 + n ≡ n = omega arith in
    let m = rw e at (lines_more t 0 n) in
    sym (rw (add-one n) (ap lines_text m ∙ concat_append line_text (lines_from 0 (map (block_at t) (up_from 0 n))) (block_lines n (block_at t n))))

pub no_blocks : (t : List ℕ) → blocks_text t 0 ≡ []
unfolding lines_from concat_map
no_blocks t = refl

-- ---- the whole text

pub text_lines :
    (t : List ℕ) (b r : ℕ) → b ≡ get_or t 0 0 → r ≡ get_or t 1 0
    → line_text (line.Graph b r) ++ lines_text (lines_from 0 (map (block_at t) (up_from 0 b))) ≡ text_of (graph_of t)
unfolding text_of concat_map
text_lines t b r e f = rw (e, f, blocks_length t, registers_are t, blocks_are t)
