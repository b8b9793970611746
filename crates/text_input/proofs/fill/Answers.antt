-- `fill` meets its contract. `keep` put what was held to the front; the read went behind it, and the window has grown by as many
-- bytes as were read.
use Rattle.std.proofs.Common.{rules, arith, length, ◌<◌, ◌≤◌, ◌∙◌, refl, ap, take, []}
use Rattle.std.proofs.lemmas.List.{length-take-le}
use Rattle.text_lines.specs.declared.Window.{Window}
use Rattle.text_input.proofs.ArrivalLaws.{brings-of, leaves-of}
use Rattle.text_input.proofs.FillLaws.{kept, unread, read-some, read-none, skips}
use Rattle.std.proofs.KnownBytes.{Keeps-refl}
use Rattle.text_input.proofs.fill.Goals as goal

pub returns-then-buf-end-clause-filled : goal.returns-then-buf-end-clause-filled
returns-then-buf-end-clause-filled g c =
    let k = kept c.args.window.now c.args.buf.now c.keep.ensures in
    record {
      bytes = [];
      held = unread k;
      skipping = skips k;
      brings = refl;
      size = search rules;
    }

pub returns-then-buf-end-clause-brought : goal.returns-then-buf-end-clause-brought
returns-then-buf-end-clause-brought g c =
    let k = kept c.args.window.now c.args.buf.now c.keep.ensures in
    record { bytes = []; held = unread k; leaves = Keeps-refl _ }

pub returns-in-Ok-clause-filled : goal.returns-in-Ok-clause-filled
returns-in-Ok-clause-filled g c =
    let k = kept c.args.window.now c.args.buf.now c.keep.ensures in
    let n = c.in-Ok.n in
    let ys = c.read-read.new.buf in
    let b : n ≤ length ys = (rw c.in-Ok.is at c.read-read.ensures.bound).0 in
    let l = length-take-le n ys b in
    record {
      bytes = take n ys;
      held = read-some k ys _ n c.grow.ensures b;
      skipping = ap (λ (x : Window). x.skipping) c.grow.ensures ∙ skips k;
      brings = rw c.arrival_of-arrival.ensures (brings-of _ n ys c.in-Ok.is b);
      size = search rules;
    }

pub returns-in-Ok-clause-brought : goal.returns-in-Ok-clause-brought
returns-in-Ok-clause-brought g c =
    let k = kept c.args.window.now c.args.buf.now c.keep.ensures in
    let n = c.in-Ok.n in
    let ys = c.read-read.new.buf in
    let b : n ≤ length ys = (rw c.in-Ok.is at c.read-read.ensures.bound).0 in
    let h : 0 < length ys = omega arith in
    record {
      bytes = take n ys;
      held = read-some k ys _ n c.grow.ensures b;
      leaves = rw c.arrival_of-arrival.ensures (leaves-of _ _ _ n ys c.in-Ok.is h c.read-read.ensures.bytes);
    }

pub returns-clause-filled : goal.returns-clause-filled
returns-clause-filled g c =
    let k = kept c.args.window.now c.args.buf.now c.keep.ensures in
    record {
      bytes = [];
      held = read-none k c.read-read.new.buf _;
      skipping = skips k;
      brings = search rules;
      size = search rules;
    }

pub returns-clause-brought : goal.returns-clause-brought
returns-clause-brought g c =
    let k = kept c.args.window.now c.args.buf.now c.keep.ensures in
    record {
      bytes = [];
      held = read-none k c.read-read.new.buf _;
      leaves = search rules;
    }
