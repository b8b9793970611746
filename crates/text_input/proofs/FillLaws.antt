-- What is held after a read behind the kept bytes. The kept bytes stand in front of the buffer, and the read changes only what stands
-- behind them, so the window shows them with as many of the bytes that were read as it has grown by.
use Prim.Native.Nat.{ℕ, ◌+◌, ◌≤◌}
use mathlib.Core.Path.{◌≡◌, sym, ap, subst, ◌∙◌}
use mathlib.Core.List.{List, [], ◌++◌, append-nil}
use native.Mathlib.Omega.{arith}
use lib.ListN.{length, take, drop, length-append}
use lib.Seq.{length-take-le, take-append_seam, take-append-le, take-append-add}
use Rattle.std.specs.Prelude.{Option}
use Rattle.std.specs.Io.KnownBytes.{Consumes}
use Rattle.std.proofs.KnownBytes.{Consumes-trans}
use Rattle.base_bytes.specs.Put.{put, after}
use Rattle.base_bytes.proofs.PutLaws.{put_front, after-fits, after_none}
use Rattle.text_lines.specs.Window.{held_of, moved_down, grown_of}
use Rattle.text_lines.specs.declared.Window.{Window}
use Rattle.text_lines.specs.Cuts.{read}
use Rattle.text_input.specs.Filled.{FilledReads}
use Rattle.text_lines.proofs.Cuts.{held-le}
use Rattle.text_lines.proofs.WindowLaws.{window-end}

-- what `keep` leaves of a window and its buffer
pub record Kept (w : Window) (buf : List ℕ) (v : Window) (k : List ℕ) : Type 0 where
  pub window : v ≡ moved_down w buf
  pub bytes : k ≡ put buf 0 (held_of w buf)

pub kept : (w : Window) (buf : List ℕ) {v : Window} {k : List ℕ} → (v ≡ moved_down w buf) × (k ≡ put buf 0 (held_of w buf)) → Kept w buf v k
kept w buf e = record { window = e.0; bytes = e.1 }

module _ {w : Window} {buf : List ℕ} {v : Window} {k : List ℕ} (e : Kept w buf v k) where
  kept-front : take v.end k ≡ held_of w buf
  kept-front =
      ap (λ (x : Window). take x.end k) e.window
      ∙ ap (take (length (held_of w buf))) (e.bytes ∙ put_front buf (held_of w buf) (held-le w buf))
      ∙ take-append_seam (held_of w buf) (drop (length (held_of w buf)) buf)

  kept-end : v.end ≡ length (held_of w buf)
  kept-end = ap (λ (x : Window). x.end) e.window

  pub skips : v.skipping ≡ w.skipping
  skips = ap (λ (x : Window). x.skipping) e.window

  -- without a read
  pub unread : held_of v k ≡ held_of w buf ++ []
  unread = ap (λ (x : Window). drop x.at (take v.end k)) e.window ∙ kept-front ∙ sym (append-nil (held_of w buf))

  -- after a read of `count` bytes
  module _ (ys post : List ℕ) where
    front : take v.end k ++ (ys ++ post) ≡ held_of w buf ++ (ys ++ post)
    front = ap (λ (x : List ℕ). x ++ (ys ++ post)) kept-front

    pub read-some : (count : ℕ) {r : Window} → r ≡ grown_of v count (length (take v.end k ++ (ys ++ post))) → count ≤ length ys
        → held_of r (take v.end k ++ (ys ++ post)) ≡ held_of w buf ++ take count ys
    read-some count g h =
        let m : List ℕ = take v.end k ++ (ys ++ post) in
        let n = kept-end in
        let s : length m ≡ length (held_of w buf) + (length ys + length post) = ap length front ∙ length-append (held_of w buf) (ys ++ post) ∙ ap (λ (n : ℕ). length (held_of w buf) + n) (length-append ys post) in
        let j : v.end + count ≤ length m = omega arith in
        let l : after (length m) v.end count ≡ length (held_of w buf) + count = omega (arith, after-fits (length m) v.end count j) in
        ap (λ (x : Window). held_of x m) g
        ∙ ap (λ (x : Window). drop x.at (take (after (length m) v.end count) m)) e.window
        ∙ ap (take (after (length m) v.end count)) front
        ∙ ap (λ (n : ℕ). take n (held_of w buf ++ (ys ++ post))) l
        ∙ take-append-add (held_of w buf) (ys ++ post) count
        ∙ ap (λ (x : List ℕ). held_of w buf ++ x) (take-append-le count ys post h)

    -- after a read that brought none
    pub read-none : held_of v (take v.end k ++ (ys ++ post)) ≡ held_of w buf ++ []
    read-none = let m : List ℕ = take v.end k ++ (ys ++ post) in read-some 0 {r = v} (window-end v.at v.skipping (sym (after_none (length m) v.end))) (omega arith)

pub filled-reads : FilledReads
filled-reads w buf v a m input ls p = read p.bytes p.held p.skipping

-- a read behind the first n bytes of a buffer: its first n + m bytes are what both gave
pub read-on : (old mid new : Option (List ℕ)) (n m : ℕ) (buf ys post : List ℕ) → n ≤ length buf → m ≤ length ys → Consumes old mid (take n buf) → Consumes mid new (take m ys)
    → Consumes old new (take (n + m) (take n buf ++ (ys ++ post)))
read-on old mid new n m buf ys post h k p q =
    let s : List ℕ = take n buf in
    let l : length s ≡ n = length-take-le n buf h in
    let e : s ++ take m ys ≡ take (n + m) (s ++ (ys ++ post)) =
    ap (λ (x : List ℕ). s ++ x) (sym (take-append-le m ys post k)) ∙ sym (take-append-add s (ys ++ post) m) ∙ ap (λ (i : ℕ). take (i + m) (s ++ (ys ++ post))) l
    in
    subst (Consumes old new) e (Consumes-trans old mid new s (take m ys) p q)
