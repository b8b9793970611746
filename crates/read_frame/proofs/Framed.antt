-- A framed command and its rows, both ways. It passes the rows of length, class, parameters and shape, and its data field stands from the sixth
-- byte up to data_end; a command that passes its rows and is not GET DATA is framed. By the laws of frames.
use Prim.Native.Nat.{ℕ, ◌+◌, ◌≤◌}
use mathlib.Core.Path.{◌≡◌, refl, sym, subst, ◌∙◌}
use mathlib.Core.List.{List, [], ◌∷◌}
use mathlib.Core.Bool.{Bool, true, false}
use native.Mathlib.Omega.{arith}
use lib.ListN.{length}
use lib.Seq.{take-append_seam}
use borrow.Author.Tests.{le-ltb, not-false}
use Rattle.base_bytes.specs.Bytes.{byte}
use Rattle.read_tlv.specs.Encoding.{window, Bytes}
use Rattle.read_frame.specs.Framing.{length_wrong, class_right, class_wrong, parameters_right, parameters_wrong, shape_right, shape_wrong, data_end}
use Rattle.read_frame.specs.Frame.{le_of, framed, data_field, has_le, Framed}
use Rattle.read_frame.proofs.Frames.{five, framed-length, framed-shape, framed-whole, field-length}
use Rattle.read_frame.proofs.Rows.{Passes}

-- ---- framed, it passes

-- what the reader of a data field is given, beside the rows that are passed; the rows of the instruction and of the field are the reader's own
pub record Stands (instruction p2 : ℕ) (Encoded : List ℕ → Type 0) (s : List ℕ) : Type 0 where
  pub length_right : length_wrong s ≡ false
  pub class_right : class_wrong s ≡ false
  pub parameters_right : parameters_wrong s ≡ false
  pub shape_right : shape_wrong s ≡ false
  pub instructed : byte s 1 ≡ instruction
  pub second : byte s 3 ≡ p2
  pub ordered : 5 ≤ data_end s
  pub held : data_end s ≤ length s
  pub encoded : Encoded (window s 5 (data_end s))

le-short : (b : Bool) → length (le_of b) ≤ 1
le-short false = omega arith
le-short true = omega arith

module _ (class instruction p1 p2 : ℕ) (field : List ℕ) (b : Bool) where
  pub field-window : window (framed class instruction p1 p2 field b) 5 (5 + length field) ≡ field
  unfolding window
  field-window = rw (five (length field)) (take-append_seam field (le_of b))

  framed-stands : class_right class ≡ true → parameters_right instruction p1 p2 ≡ true → (instruction ≡ 0xCA → ⊥) → 1 ≤ length field → length field ≤ 255
      → (Encoded : List ℕ → Type 0) → Encoded field → Stands instruction p2 Encoded (framed class instruction p1 p2 field b)
  unfolding length_wrong class_wrong parameters_wrong shape_wrong
  framed-stands c p other least most Encoded e =
      let s = framed class instruction p1 p2 field b in
      let l = framed-length class instruction p1 p2 field b in let k = le-short b in
      record {
        length_right = rw (le-ltb (length s) 4 (omega arith)) (le-ltb 261 (length s) (omega arith));
        class_right = rw c refl;
        parameters_right = rw p refl;
        shape_right = rw (framed-shape class instruction p1 p2 field b least other) refl;
        instructed = refl;
        second = refl;
        ordered = omega arith;
        held = omega arith;
        encoded = subst Encoded (sym field-window) e;
      }

pub stands : (s : List ℕ) (instruction : ℕ) (Encoded : List ℕ → Type 0) → (instruction ≡ 0xCA → ⊥) → (f : Framed instruction Encoded s)
    → Stands instruction f.p2 Encoded s
stands s instruction Encoded other f =
    subst (Stands instruction f.p2 Encoded) (sym f.written)
    (framed-stands f.class instruction f.p1 f.p2 f.field f.with_le f.right_class f.right_parameters other f.least f.most Encoded f.encoded)

-- with the reader's own two rows it passes all six
pub stands-passes : (s : List ℕ) (instruction p2 : ℕ) (Encoded : List ℕ → Type 0) (unknown wrong : Bool) → Stands instruction p2 Encoded s
    → unknown ≡ false → wrong ≡ false → Passes (length_wrong s) (class_wrong s) unknown (parameters_wrong s) (shape_wrong s) wrong
stands-passes s instruction p2 Encoded unknown wrong t u w =
    record {
      length_right = t.length_right;
      class_right = t.class_right;
      instruction_right = u;
      parameters_right = t.parameters_right;
      shape_right = t.shape_right;
      data_right = w;
    }

-- ---- what passes is framed

-- the window of the data field is what framing takes for it
window-field : (s : List ℕ) → window s 5 (data_end s) ≡ data_field s
unfolding window
window-field [] = refl
window-field (a ∷ []) = refl
window-field (a ∷ b ∷ []) = refl
window-field (a ∷ b ∷ c ∷ []) = refl
window-field (a ∷ b ∷ c ∷ d ∷ []) = refl
window-field (a ∷ b ∷ c ∷ d ∷ n ∷ rest) = rw (five n) refl

module _ (s : List ℕ) {unknown wrong : Bool} (p : Passes (length_wrong s) (class_wrong s) unknown (parameters_wrong s) (shape_wrong s) wrong) where
  pub class-right : class_right (byte s 0) ≡ true
  unfolding class_wrong
  class-right = not-false _ p.class_right

  pub parameters-right : parameters_right (byte s 1) (byte s 2) (byte s 3) ≡ true
  unfolding parameters_wrong
  parameters-right = not-false _ p.parameters_right

  pub shape-right : shape_right s ≡ true
  unfolding shape_wrong
  shape-right = not-false _ p.shape_right

  pub passes-framed : (instruction : ℕ) (Encoded : List ℕ → Type 0) → Bytes s → byte s 1 ≡ instruction → (instruction ≡ 0xCA → ⊥)
      → Encoded (window s 5 (data_end s)) → (f : Framed instruction Encoded s) × (f.p2 ≡ byte s 3)
  passes-framed instruction Encoded b i n e =
      let other : byte s 1 ≡ 0xCA → ⊥ = λ h. n (sym i ∙ h) in
      let l = field-length s other shape-right in let m = b 4 in
      let f : Framed (byte s 1) Encoded s = record {
        class = byte s 0;
        p1 = byte s 2;
        p2 = byte s 3;
        field = data_field s;
        with_le = has_le s;
        right_class = class-right;
        right_parameters = parameters-right;
        least = omega arith;
        most = omega arith;
        encoded = subst Encoded (window-field s) e;
        written = framed-whole s other shape-right;
      } in
      subst (λ (k : ℕ). (g : Framed k Encoded s) × (g.p2 ≡ byte s 3)) i (f, refl)
