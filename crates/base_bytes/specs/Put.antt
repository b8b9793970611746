-- What writing leaves in a buffer. `put l at vs` is l with the elements of vs from `at` on; what would stand past the end is left out.
-- The place after it stops at the end, so that texts written one after the other are one text.
use Rattle.std.specs.Prelude.{ℕ, ◌+◌, ◌-◌, min, ◌≡◌, List, length}
use Rattle.std.proofs.lemmas.List.Edits.{sets}
use Rattle.base_bytes.specs.declared.writer.Writer.{Writer}

unfoldable pub put : List ℕ → ℕ → List ℕ → List ℕ
put l at vs = sets l at vs

-- the place after `count` bytes at `at`, in a buffer of `size` bytes
unfoldable pub after : ℕ → ℕ → ℕ → ℕ
after size at count = at + min count (size - at)

-- vs was written to l from `at` on: r is the place after it, and m the buffer as it is then
pub record Wrote (l : List ℕ) (at : ℕ) (vs : List ℕ) (r : ℕ) (m : List ℕ) : Type 0 where
  pub place : r ≡ after (length l) at (length vs)
  pub content : m ≡ put l at vs

-- text was written by the writer w, which is v after it: into the same buffer, from its place on
pub record Written (w : Writer) (text : List ℕ) (v : Writer) : Type 0 where
  pub lent : v.buf.ghost_name ≡ w.buf.ghost_name
  pub wrote : Wrote w.buf.now w.at text v.at v.buf.now
