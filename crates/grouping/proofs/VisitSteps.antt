-- The steps of the visit by a stack: each leaves to be done what the whole visit does, for every search. Assumes nothing.
use Prim.Native.Nat.{ℕ, zero, suc, ◌+◌, ◌-◌, ◌*◌, ◌≤◌, ◌<◌}
use mathlib.Core.Path.{◌≡◌, refl, sym, ap, ◌∙◌}
use mathlib.Core.Bool.{true, false}
use mathlib.Core.List.{List, [], ◌∷◌, ◌++◌}
use native.Mathlib.Omega.{arith}
use lib.Dec.{ltb}
use lib.ListN.{length, get_or, length-append}
use lib.Seq.{drop-nil}
use borrow.Author.Tests.{lt-ltb, le-ltb}
use Rattle.runs.specs.Lists.{only}
use Rattle.std.proofs.lemmas.List.{get_or_default}
use Rattle.cfg.specs.Layout.{max_blocks}
use Rattle.fsmd.specs.Layout.{absent}
use Rattle.grouping.specs.declared.visit.Frame.{Frame}
use Rattle.grouping.specs.Visit.{Visitor}
use Rattle.grouping.specs.Bytes.{row, edges_from, edges_in, visit_in}
use Rattle.grouping.specs.Marks.{Meets}
use Rattle.grouping.proofs.VisitStack.{Frame as Left, blocks, resume, resume_none, resume_pop, resume_skip, resume_push, resume_over}

-- a block whose successors are left from those passed on
abbrev pub top : List (List ℕ) → Frame → Left
top bytes f = record { block = f.block; left = edges_from bytes f.block f.passed }

-- the frames of the stack, the deepest first
abbrev pub frames : List (List ℕ) → List Frame → List Left → List Left
frames bytes [] below = below
frames bytes (f ∷ fs) below = frames bytes fs (top bytes f ∷ below)

frames_snoc : (bytes : List (List ℕ)) (fs : List Frame) (f : Frame) (below : List Left) → frames bytes (fs ++ (f ∷ [])) below ≡ top bytes f ∷ frames bytes fs below
frames_snoc bytes [] f below = refl
frames_snoc bytes (g ∷ fs) f below = frames_snoc bytes fs f (top bytes g ∷ below)

-- passes of the loop that the frames still take
abbrev pub work : List Frame → ℕ
work [] = 0
work (f ∷ fs) = suc (2 - f.passed) + work fs

work_snoc : (fs : List Frame) (f : Frame) → work (fs ++ (f ∷ [])) ≡ suc (2 - f.passed) + work fs
work_snoc [] f = refl
work_snoc (g ∷ fs) f = omega (arith, work_snoc fs f)

abbrev pub Low : List Frame → Type 0
Low [] = Unit {0}
Low (f ∷ fs) = (f.block < max_blocks) × Low fs

low_snoc : (fs : List Frame) (f : Frame) → Low fs → f.block < max_blocks → Low (fs ++ (f ∷ []))
low_snoc [] f l h = (h, tt)
low_snoc (g ∷ fs) f l h = (l.0, low_snoc fs f l.1 h)

low_parts : (fs : List Frame) (f : Frame) → Low (fs ++ (f ∷ [])) → Low fs × (f.block < max_blocks)
low_parts [] f l = (tt, l.0)
low_parts (g ∷ fs) f l = let p = low_parts fs f l.1 in ((l.0, p.0), p.1)

-- ---- the successors of a block

module _ (bytes : List (List ℕ)) (n : ℕ) where
  edge_some : (k t : ℕ) → k < 2 → t ≡ get_or (row bytes n) k 0 → t < max_blocks → edges_from bytes n k ≡ t ∷ edges_from bytes n (k + 1)
  unfolding edges_from
  edge_some zero t h e l = rw (← e, lt-ltb t max_blocks l) refl
  edge_some (suc zero) t h e l = rw (← e, lt-ltb t max_blocks l) refl
  edge_some (suc (suc k)) t h e l = absurd (omega arith)

  edge_none : (k t : ℕ) → k < 2 → t ≡ get_or (row bytes n) k 0 → max_blocks ≤ t → edges_from bytes n k ≡ edges_from bytes n (k + 1)
  unfolding edges_from
  edge_none zero t h e l = rw (← e, le-ltb t max_blocks l) refl
  edge_none (suc zero) t h e l = rw (← e, le-ltb t max_blocks l) refl
  edge_none (suc (suc k)) t h e l = absurd (omega arith)

  no_edge : (k : ℕ) → 2 ≤ k → edges_from bytes n k ≡ []
  unfolding edges_from
  no_edge zero h = absurd (omega arith)
  no_edge (suc zero) h = absurd (omega arith)
  no_edge (suc (suc k)) h = ap (only (λ (t : ℕ). ltb t max_blocks)) (drop-nil k)

-- the byte that the code reads
pub byte_read : (bytes : List (List ℕ)) (n m j k : ℕ) → length bytes ≡ 64 → n < max_blocks → m ≡ n → j ≡ k → get_or (get_or bytes m []) j 0 ≡ get_or (row bytes n) k 0
byte_read bytes n m j k l h e f = rw (e, f) (ap (λ (r : List ℕ). get_or r k 0) (get_or_default bytes n [] (absent ∷ absent ∷ []) (omega arith)))

pub empty : {A : Type 0} (l : List A) → (0 < length l → false ≡ true) → l ≡ []
empty [] f = refl
empty (x ∷ l) f = let e : false ≡ true = f (omega arith) in cc

-- ---- the heads of the loops

module _ {S : Type 0} (v : Visitor S) (ready : S → Type 0) (unseen : S → ℕ) (bytes : List (List ℕ)) (whole : S) where
  pub record Visiting (s : S) (stack : List Frame) (frame : Frame) : Type 0 where
    pub fit : ready s
    pub block : frame.block < max_blocks
    pub low : Low stack
    pub deep : length stack + unseen s < max_blocks
    pub left : resume v (edges_in bytes) (max_blocks - suc (length stack)) (top bytes frame ∷ frames bytes stack []) s ≡ whole

-- what falls with each pass of the outer loop, and of the inner one
abbrev pub rests : {S : Type 0} → (S → ℕ) → S → List Frame → ℕ
rests unseen s stack = 4 * unseen s + work stack

abbrev pub steps : {S : Type 0} → (S → ℕ) → S → List Frame → Frame → ℕ
steps unseen s stack frame = 4 * unseen s + (suc (2 - frame.passed) + work stack)

pub steps_begin : {S : Type 0} (unseen : S → ℕ) (s : S) (stack rest : List Frame) (outer : Frame) → stack ≡ rest ++ (outer ∷ []) → steps unseen s rest outer ≡ rests unseen s stack
steps_begin unseen s stack rest outer z = omega (arith, ap work z, work_snoc rest outer)

-- every block is skipped, and nothing changes any more
pub record Over {S : Type 0} (v : Visitor S) (s : S) : Type 0 where
  pub stops : (path : List ℕ) (x : ℕ) → v.stop path x s ≡ true
  pub skips : (path : List ℕ) (x : ℕ) → v.skip path x s ≡ s
  pub finishes : (x : ℕ) → v.finish x s ≡ s

-- the same where every frame is on the stack
module _ {S : Type 0} (v : Visitor S) (ready : S → Type 0) (unseen : S → ℕ) (bytes : List (List ℕ)) (whole : S) where
  pub record Resting (s : S) (stack : List Frame) : Type 0 where
    pub fit : ready s
    pub low : Low stack
    pub deep : length stack + unseen s ≤ max_blocks
    pub left : resume v (edges_in bytes) (max_blocks - length stack) (frames bytes stack []) s ≡ whole

module _ {S : Type 0} {v : Visitor S} {ready : S → Type 0} {unseen : S → ℕ} {bytes : List (List ℕ)} {whole s : S} {stack : List Frame} (i : Resting v ready unseen bytes whole s stack) where
  pub rest_ends : stack ≡ [] → s ≡ whole
  rest_ends z =
      sym (resume_none v (edges_in bytes) (max_blocks - length stack) s)
      ∙ ap (λ (fs : List Frame). resume v (edges_in bytes) (max_blocks - length stack) (frames bytes fs []) s) (sym z)
      ∙ i.left

  pub rest_pops : (outer : Frame) (rest : List Frame) → stack ≡ rest ++ (outer ∷ []) → Visiting v ready unseen bytes whole s rest outer
  rest_pops outer rest z =
      let l : length stack ≡ length rest + 1 = ap length z ∙ length-append rest (outer ∷ []) in
      let p = low_parts rest outer (rw z at i.low) in
      let f : max_blocks - length stack ≡ max_blocks - suc (length rest) = omega (arith, l) in
      let g : frames bytes stack [] ≡ top bytes outer ∷ frames bytes rest [] = ap (λ (fs : List Frame). frames bytes fs []) z ∙ frames_snoc bytes rest outer [] in
      record { fit = i.fit; block = p.1; low = p.0; deep = omega (arith, i.deep, l); left = rw (f, g) at i.left }

pub rest_begins : {S : Type 0} (v : Visitor S) (ready : S → Type 0) (unseen : S → ℕ) (bytes : List (List ℕ)) (s : S) (root : ℕ) → ready s → unseen s < max_blocks → root < max_blocks
    → Resting v ready unseen bytes (visit_in v bytes root s) s (record { block = root; passed = 0 } ∷ [])
unfolding resume visit_in
rest_begins v ready unseen bytes s root r u l = record { fit = r; low = (l, tt); deep = omega (arith, u); left = refl }

module _ {S : Type 0} {v : Visitor S} {ready : S → Type 0} {unseen : S → ℕ} {bytes : List (List ℕ)} {whole s : S} {stack : List Frame} {frame : Frame}
    (i : Visiting v ready unseen bytes whole s stack frame) where
  abbrev next_frame : Frame
  next_frame = record { block = frame.block; passed = frame.passed + 1 }

  -- the block's path
  abbrev pub path_here : List ℕ
  path_here = blocks (frames bytes stack [])

  -- no successor is left
  module _ (done : 2 ≤ frame.passed) (t : S) (e : t ≡ v.finish frame.block s) (r : ready t) (u : unseen t ≤ unseen s) where
    popped : resume v (edges_in bytes) (suc (max_blocks - suc (length stack))) (frames bytes stack []) t ≡ whole
    popped =
        rw e (
        sym (resume_pop v (edges_in bytes) (max_blocks - suc (length stack)) frame.block (frames bytes stack []) s)
        ∙ (rw (no_edge bytes frame.block frame.passed done) at i.left)
        )

    pub visit_pops : Resting v ready unseen bytes whole t stack
    visit_pops =
        let f : suc (max_blocks - suc (length stack)) ≡ max_blocks - length stack = omega (arith, i.deep) in
        record { fit = r; low = i.low; deep = omega (arith, i.deep, u); left = rw f at popped }

  -- the next byte
  module _ (more : frame.passed < 2) (to : ℕ) (at : to ≡ get_or (row bytes frame.block) frame.passed 0) where
    pub visit_passes : max_blocks ≤ to → Visiting v ready unseen bytes whole s stack next_frame
    visit_passes h =
        record {
          fit = i.fit;
          block = i.block;
          low = i.low;
          deep = i.deep;
          left = rw (edge_none bytes frame.block frame.passed to more at h) at i.left;
        }

    pub pass_falls : steps unseen s stack next_frame < steps unseen s stack frame
    pass_falls = omega arith

    module _ (l : to < max_blocks) where
      left' : resume v (edges_in bytes) (max_blocks - suc (length stack)) (record { block = frame.block; left = to ∷ edges_from bytes frame.block (frame.passed + 1) } ∷ frames bytes stack []) s ≡ whole
      left' = rw (edge_some bytes frame.block frame.passed to more at l) at i.left

      pub visit_skips : (t : S) → Meets v ready unseen (frame.block ∷ path_here) to s t false → Visiting v ready unseen bytes whole t stack next_frame
      visit_skips t m =
          record {
            fit = m.2;
            block = i.block;
            low = i.low;
            deep = omega (arith, i.deep, m.3);
            left =
                rw m.1 (sym (resume_skip v (edges_in bytes) frame.block to (edges_from bytes frame.block (frame.passed + 1)) (frames bytes stack []) s (max_blocks - suc (length stack)) m.0) ∙ left');
          }

      pub skip_falls : (t : S) → Meets v ready unseen (frame.block ∷ path_here) to s t false → steps unseen t stack next_frame < steps unseen s stack frame
      skip_falls t m = omega (arith, m.3)

      pub visit_stops : (t : S) → v.stop (frame.block ∷ path_here) to s ≡ true → t ≡ v.skip (frame.block ∷ path_here) to s → Over v t → t ≡ whole
      visit_stops t h e o =
          sym (resume_over v (edges_in bytes) t o.stops o.skips o.finishes (max_blocks - suc (length stack)) (record { block = frame.block; left = edges_from bytes frame.block (frame.passed + 1) } ∷ frames bytes stack []))
          ∙ rw e (sym (resume_skip v (edges_in bytes) frame.block to (edges_from bytes frame.block (frame.passed + 1)) (frames bytes stack []) s (max_blocks - suc (length stack)) h) ∙ left')

      module _ (t : S) (m : Meets v ready unseen (frame.block ∷ path_here) to s t true) where
        pub visit_enters : Visiting v ready unseen bytes whole t (stack ++ (next_frame ∷ [])) (record { block = to; passed = 0 })
        visit_enters =
            let n : length (stack ++ (next_frame ∷ [])) ≡ length stack + 1 = length-append stack (next_frame ∷ []) in
            let f : max_blocks - suc (length stack) ≡ suc (max_blocks - suc (length (stack ++ (next_frame ∷ [])))) = omega (arith, n, i.deep, m.3) in
            record {
              fit = m.2;
              block = l;
              low = low_snoc stack next_frame i.low i.block;
              deep = omega (arith, n, i.deep, m.3);
              left =
                  rw (frames_snoc bytes stack next_frame [], m.1)
                  (sym (resume_push v (edges_in bytes) frame.block to (edges_from bytes frame.block (frame.passed + 1)) (frames bytes stack []) s (max_blocks - suc (length (stack ++ (next_frame ∷ [])))) m.0) ∙ (rw f at left'));
            }

        pub enter_falls : steps unseen t (stack ++ (next_frame ∷ [])) (record { block = to; passed = 0 }) < steps unseen s stack frame
        enter_falls = omega (arith, work_snoc stack next_frame, m.3)
