-- What one cycle can do to registers known within bounds (R-5 of paper 02): the machine's `worked` and `clock`, over ranges. Assumes nothing.
use Rattle.std.specs.Prelude.{ℕ, List, [], ◌∷◌, ◌++◌, map, take, ◌==◌, slice_index}
use Rattle.word.specs.Word.{choose, set_code}
use Rattle.fsmd.specs.declared.Wire.{Wire}
use Rattle.fsmd.specs.Machine.{State}
use Rattle.bounds.specs.declared.Range.{Range}
use Rattle.bounds.specs.Range.{span, exact, range_of}

-- for each reference its lowest and its highest word
pub record Bounds : Type 0 where
  pub lowest : List ℕ
  pub highest : List ℕ

abbrev pub range_at : Bounds → ℕ → Range
range_at e x = span (slice_index e.lowest x) (slice_index e.highest x)

-- those of the first n references
abbrev pub first_bounds : ℕ → List ℕ → List ℕ → Bounds
first_bounds n ls hs = record { lowest = take n ls; highest = take n hs }

abbrev pub with_range : Bounds → Range → Bounds
with_range e r = record { lowest = e.lowest ++ (r.low ∷ []); highest = e.highest ++ (r.high ∷ []) }

-- a wire's range, where `at` reads a reference; a set's a is its literal
unfoldable pub wire_range : (ℕ → Range) → Wire → Range
unfolding range_of
wire_range at w = range_of w.code (choose (w.code == set_code) (exact w.a) (at w.a)) (at w.b) (at w.c)

-- what references read: the sixteen registers at the start of the cycle, then the wires so far, in order
unfoldable pub bounded : Bounds → List Wire → Bounds
unfolding wire_range
bounded e [] = e
bounded e (w ∷ ws) = bounded (with_range e (wire_range (range_at e) w)) ws

-- what each next register reads
abbrev pub next_words : State → List ℕ → List ℕ
next_words q env = map (λ x. slice_index env x) q.next_registers

-- the bounds after a cycle of a state, of the registers below R
unfoldable pub next_bounds : State → Bounds → Bounds
unfolding bounded
next_bounds q e =
    let f = bounded e q.wires in
    record { lowest = next_words q f.lowest; highest = next_words q f.highest }
