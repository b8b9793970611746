-- Two things read that are equal are equal part by part, and something read is not nothing.
use Prim.Native.Nat.{ℕ}
use mathlib.Core.Path.{◌≡◌, sym, ap}
use mathlib.Core.Bool.{Bool}
use Rattle.std.specs.Prelude.{Some, None}
use Rattle.std.proofs.lemmas.Option.{none-some, same_Some}
use Rattle.read_tlv.specs.declared.Tag.{Tag}
use Rattle.read_tlv.specs.declared.Length.{Length}
use Rattle.read_tlv.specs.declared.Head.{Head}
use Rattle.read_tlv.specs.declared.Element.{Element}
use Rattle.read_tlv.specs.Tlv.{tag_read, length_read, head_read, element_read}

pub nothing : {A G : Type 0} {x : A} → Some x ≡ None → G
nothing {x = x} q = absurd (none-some x (sym q))

module _ {t u : ℕ} {b c : Bool} {next onward : ℕ} (q : tag_read t b next ≡ tag_read u c onward) where
  pub tag-number : t ≡ u
  tag-number = ap (λ (x : Tag). x.tag) (same_Some _ _ q)

  pub tag-constructed : b ≡ c
  tag-constructed = ap (λ (x : Tag). x.constructed) (same_Some _ _ q)

  pub tag-next : next ≡ onward
  tag-next = ap (λ (x : Tag). x.next) (same_Some _ _ q)

module _ {count number next onward : ℕ} (q : length_read count next ≡ length_read number onward) where
  pub length-count : count ≡ number
  length-count = ap (λ (x : Length). x.count) (same_Some _ _ q)

  pub length-next : next ≡ onward
  length-next = ap (λ (x : Length). x.next) (same_Some _ _ q)

module _ {t u : ℕ} {b c : Bool} {start stop from to : ℕ} (q : head_read t b start stop ≡ head_read u c from to) where
  pub head-tag : t ≡ u
  head-tag = ap (λ (x : Head). x.tag) (same_Some _ _ q)

  pub head-constructed : b ≡ c
  head-constructed = ap (λ (x : Head). x.constructed) (same_Some _ _ q)

  pub head-start : start ≡ from
  head-start = ap (λ (x : Head). x.start) (same_Some _ _ q)

  pub head-stop : stop ≡ to
  head-stop = ap (λ (x : Head). x.stop) (same_Some _ _ q)

module _ {start stop from to : ℕ} (q : element_read start stop ≡ element_read from to) where
  pub element-start : start ≡ from
  element-start = ap (λ (x : Element). x.start) (same_Some _ _ q)

  pub element-stop : stop ≡ to
  element-stop = ap (λ (x : Element). x.stop) (same_Some _ _ q)
