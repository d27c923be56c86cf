-- `cfg_write::write_text` meets its contract. Assumes nothing.
use mathlib.Core.Path.{◌≡◌, sym, ap, ◌∙◌}
use mathlib.Core.Bool.{true}
use mathlib.Core.List.{List, ◌++◌}
use Prim.Native.Nat.{ℕ, ◌≤◌}
use native.Mathlib.Omega.{arith}
use lib.ListN.{length, take, drop, replicate, length-replicate}
use lib.Seq.{length-take-le}
use Rattle.std.proofs.lemmas.Result.{err_from_is_err_and}
use Rattle.cfg.specs.Table.{graph_of, admitted_graph}
use Rattle.cfg_text.specs.Read.{max_text}
use Rattle.cfg_write.specs.Put.{Put}
use Rattle.cfg_write.specs.Write.{text_of}
use Rattle.cfg_write.proofs.PutLaws.{put_length}
use Rattle.cfg_write.proofs.WriteLaws.{table_refused, out_short, copied, text_fits}
use Rattle.cfg_write.proofs.write_text.Goals as goal
use Rattle.cfg_write.proofs.write_text.Goals.{After-put_text-n}

pub returns-in_err-graph : goal.returns-in_err-graph
returns-in_err-graph c =
    let p = err_from_is_err_and c.from_residual.result c.from_residual.ensures.1 in
    let w = table_refused c.args.table.now c.args.out.now c.in_err-graph.field-0.0 c.in_err-graph.ensures in
    record { value = rw (p.1, p.2) w.0; out_after = w.1 }

-- the text in the buffer, which it fits
record Ready (t after : List ℕ) (n : ℕ) : Type 0 where
  good : admitted_graph t ≡ true
  put : Put 41024 (replicate max_text 0) after 0 (text_of (graph_of t)) n
  fits : n ≤ length after
  long : n ≤ max_text

ready : (c : After-put_text-n) → Ready c.args.table.now c.put_text-n.new.out c.put_text-n.result
ready c =
    let t = c.args.table.now in
    let e = c.in_ok-graph.ensures in
    let ok = rw e at c.in_ok-graph.graph.admitted in
    let p = rw e at c.put_text-n.ensures in
    let text = text_fits t (λ i. omega (arith, c.type_inv.table i)) ok in
    let place = p.place in
    let same = put_length p in
    let all = length-replicate {A = ℕ} max_text 0 in
    record { good = ok; put = p; fits = omega arith; long = omega arith }

pub returns-then-out-n : goal.returns-then-out-n
returns-then-out-n c =
    let r = ready (goal.at.returns-then-out-n c).After-put_text-n in
    let w = out_short c.args.table.now c.args.out.now c.put_text-n.result r.good r.put.place c.if-out-n.true in
    record { value = w.0; out_after = w.1 }

pub slice_bounds-text-end : goal.slice_bounds-text-end
slice_bounds-text-end c = (ready (goal.at.slice_bounds-text-end c).After-put_text-n).fits

pub slice_bounds-copy_from_slice-end-3 : goal.slice_bounds-copy_from_slice-end-3
slice_bounds-copy_from_slice-end-3 c =
    let r = ready (goal.at.slice_bounds-copy_from_slice-end-3 c).After-put_text-n in
    sym (length-take-le c.put_text-n.result c.put_text-n.new.out r.fits)

pub copy_from_slice-requires : goal.copy_from_slice-requires
copy_from_slice-requires c =
    let n = c.put_text-n.result in
    let r = ready (goal.at.copy_from_slice-requires c).After-put_text-n in
    length-take-le n c.args.out.now c.if-out-n.false ∙ sym (length-take-le n c.put_text-n.new.out r.fits)

pub returns : goal.returns
returns c =
    let n = c.put_text-n.result in
    let text = c.put_text-n.new.out in
    let out = c.args.out.now in
    let r = ready (goal.at.returns c).After-put_text-n in
    let all = length-replicate {A = ℕ} max_text 0 in
    let w = copied c.args.table.now out n r.good r.put.place (replicate max_text 0) text (c.copy_from_slice.new.self ++ drop n out) r.put.stored (omega (arith, r.long)) c.if-out-n.false
    (ap (λ (l : List ℕ). l ++ drop n out) c.copy_from_slice.ensures.after
    ∙ ap (λ (k : ℕ). take n text ++ drop k out) (sym (length-take-le n text r.fits))) in
    record { value = w.0; out_after = w.1 }
