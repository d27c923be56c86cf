-- Which line is due where, and what the lines make ("Text" and "Read text into graph table" of paper 01). Assumes nothing.
use Rattle.std.specs.Prelude.{ℕ, suc, Bool, ◌&&◌, List, [], ◌∷◌, ◌++◌, length, take, eqb, ltb, Option, Some, None, Result, Ok, Err}
use Rattle.refusal.specs.declared.Refusal.{Refusal}
use Rattle.refusal.specs.declared.Refusal.TheVariants.{NoForm, NotDue, NoRegister, NoTarget}
use Rattle.word.specs.Word.{choose, arity, set_code}
use Rattle.runs.specs.Lists.{every, padded}
use Rattle.cfg.specs.Layout.{max_instructions}
use Rattle.cfg.specs.Graph.{CFG, no_instruction, targets}
use Rattle.cfg.specs.declared.Instruction.{Instruction}
use Rattle.cfg.specs.declared.Ending.{Ending}
use Rattle.cfg.specs.declared.Ending.TheVariants as ending
use Rattle.cfg.specs.declared.Block.{Block}
use Rattle.cfg_line.specs.declared.Line.{Line}
use Rattle.cfg_line.specs.declared.Line.TheVariants as line
use Rattle.cfg_line.specs.Form.{line_form}
use Rattle.cfg_text.specs.declared.ReadError.{ReadError}

-- where reading stands: the graph line is due; B, R and the blocks read so far, the next block line being due while there are
-- fewer than B; in a block, with its instructions so far
pub data Progress : Type 0 where
  start : Progress
  between : ℕ → ℕ → List Block → Progress
  inside : ℕ → ℕ → List Block → List Instruction → Progress

-- on from a line, or why it is refused
abbrev pub Next : Type 0
Next = Result Progress Refusal

-- the text's graph, or why it is refused and at which line
abbrev pub Reading : Type 0
Reading = Result CFG ReadError

abbrev pub refused : Refusal → ℕ → Reading
refused e n = Err (record { refusal = e; line = n })

-- ---- a form that is not due

abbrev pub at_start : Progress → Next → Next
at_start start x = x
at_start (between b r bs) x = Err NotDue
at_start (inside b r bs is) x = Err NotDue

abbrev pub at_block : Progress → (ℕ → ℕ → List Block → Next) → Next
at_block start k = Err NotDue
at_block (between b r bs) k = k b r bs
at_block (inside b r bs is) k = Err NotDue

abbrev pub in_block : Progress → (ℕ → ℕ → List Block → List Instruction → Next) → Next
in_block start k = Err NotDue
in_block (between b r bs) k = Err NotDue
in_block (inside b r bs is) k = k b r bs is

-- ---- each form

abbrev pub all_below : ℕ → List ℕ → Bool
all_below n = every (λ x. ltb x n)

-- the registers that an instruction names: d and the operands that its code reads; a set's a is its literal
abbrev pub instruction_registers : Instruction → List ℕ
instruction_registers i = i.d ∷ choose (eqb i.code set_code) [] (take (arity i.code) (i.a ∷ i.b ∷ []))

abbrev pub ending_registers : Ending → List ℕ
ending_registers (ending.Goto t) = []
ending_registers (ending.Ite c t f) = c.a ∷ c.b ∷ []
ending_registers ending.Halt = []

-- the next block begins
abbrev pub opened : ℕ → ℕ → ℕ → List Block → Next
opened n b r bs = choose (eqb n (length bs) && ltb n b) (Ok (inside b r bs [])) (Err NotDue)

-- an instruction joins the block, which has room for eight
abbrev pub joined : Instruction → ℕ → ℕ → List Block → List Instruction → Next
joined i b r bs is =
    choose (ltb (length is) max_instructions)
    (choose (all_below r (instruction_registers i)) (Ok (inside b r bs (is ++ (i ∷ [])))) (Err NoRegister))
    (Err NotDue)

abbrev pub block_with : List Instruction → Ending → Block
block_with is e = record { count = length is; instructions = padded max_instructions no_instruction is; ending = e }

-- the block ends
abbrev pub closed : Ending → ℕ → ℕ → List Block → List Instruction → Next
closed e b r bs is =
    choose (all_below r (ending_registers e))
    (choose (all_below b (targets e)) (Ok (between b r (bs ++ (block_with is e ∷ [])))) (Err NoTarget))
    (Err NoRegister)

-- a form not due here, or a register not below R, or a target not below B, is refused
unfoldable pub next : Progress → Line → Next
unfolding arity
next p (line.Graph b r) = at_start p (Ok (between b r []))
next p (line.Block n) = at_block p (opened n)
next p (line.Instruction i) = in_block p (joined i)
next p (line.Goto t) = in_block p (closed (ending.Goto t))
next p (line.Ite c t f) = in_block p (closed (ending.Ite c t f))
next p line.Halt = in_block p (closed ending.Halt)

-- ---- the lines of a text

-- the text has ended before line n: refused, unless every block is read
abbrev pub finish : Progress → ℕ → Reading
finish start n = refused NotDue n
finish (between b r bs) n = choose (eqb (length bs) b) (Ok (record { registers = r; blocks = bs })) (refused NotDue n)
finish (inside b r bs is) n = refused NotDue n

-- a line has a form
abbrev pub formed : Option Line → (Line → Next) → Next
formed None k = Err NoForm
formed (Some l) k = k l

abbrev pub proceed : Next → ℕ → (Progress → Reading) → Reading
proceed (Ok p) n k = k p
proceed (Err e) n k = refused e n

-- the lines from number n on; the last part is what stands behind the last line feed, and no line form if there is anything
-- (a text has at least that part: the first clause is never used)
unfoldable pub walk : Progress → ℕ → List (List ℕ) → Reading
unfolding next line_form
walk p n [] = refused NotDue n
walk p n (l ∷ []) = choose (eqb (length l) 0) (finish p n) (refused NoForm n)
walk p n (l ∷ m ∷ ms) = proceed (formed (line_form l) (next p)) n (λ q. walk q (suc n) (m ∷ ms))
