-- Any count from the bytes left upwards gives the same list: by induction on the count, since an element takes at least one byte.
-- So a list has an equation with no count in it: it is `list_of` of its first element and the list after that.
use Prim.Native.Nat.{ℕ, zero, suc, ◌+◌, ◌-◌, ◌≤◌, ◌<◌}
use mathlib.Core.Path.{◌≡◌, refl, sym, ap, ◌∙◌}
use mathlib.Core.List.{List}
use native.Mathlib.Omega.{arith}
use mathlib.Core.Bool.{Bool}
use Rattle.std.specs.Prelude.{Option, Some, None}
use Rattle.read_tlv.specs.declared.Head.{Head}
use Rattle.base_choice.specs.Choice.{pick}
use Rattle.read_tlv.specs.Tlv.{head_at}
use Rattle.read_tlv.specs.Lists.{element_closed, element_of, rest_after, list_of, list_within, list_at, element_at}
use Rattle.base_choice.proofs.Branches.{each-lt, each-eq, lt!, nlt!, eq!, ne! }
use Rattle.read_tlv.proofs.Inside.{head-inside, element-of}

module _ (s : List ℕ) (at end level : ℕ) where
  list-of-same : (x y : Bool) → (at < end → x ≡ y) → list_of s at end level x ≡ list_of s at end level y
  unfolding list_of
  list-of-same x y f =
      let P : Bool → Type 0 = λ z. z ≡ list_of s at end level y in
      each-lt P (λ a. lt! _ a refl) (λ a. each-lt P (λ b. nlt! _ a (lt! _ b refl)) (λ b. each-lt P (λ c. nlt! _ a (nlt! _ b (lt! _ c refl)))
      (λ c. each-lt P (λ d. nlt! _ a (nlt! _ b (nlt! _ c (lt! _ d refl)))) (λ d. each-eq P (λ e. nlt! _ a (nlt! _ b (nlt! _ c (nlt! _ d (eq! _ e refl)))))
      (λ e. nlt! _ a (nlt! _ b (nlt! _ c (nlt! _ d (ne! _ e (f (omega arith)))))))))))

  element-of-same : (p q : ℕ → ℕ → Bool) (r : Option Head) → r ≡ head_at s at end
      → ((start stop : ℕ) → at < start → stop ≤ end → p start stop ≡ q start stop) → element_of p r ≡ element_of q r
  unfolding element_of
  element-of-same p q None g f = refl
  element-of-same p q (Some h) g f =
      let i = head-inside s at end h.tag h.constructed h.start h.stop g in
      ap (λ (l : Bool). pick h.constructed (element_closed h.stop l) (Some h.stop)) (f h.start h.stop i.past i.within)

  rest-of-same : (p q : ℕ → Bool) (inner : ℕ → ℕ → Bool) (r : Option ℕ) → r ≡ element_of inner (head_at s at end)
      → ((next : ℕ) → at < next → p next ≡ q next) → rest_after p r ≡ rest_after q r
  unfolding rest_after
  rest-of-same p q inner None g f = refl
  rest-of-same p q inner (Some next) g f = f next (element-of s at end inner next (head_at s at end) refl g).past

  -- two readings of the rest that agree past `at`, and two of inner lists that agree there, give the same list
  list-agrees : (p q : ℕ → Bool) (inner inner' : ℕ → ℕ → Bool)
      → (at < end → (next : ℕ) → at < next → p next ≡ q next)
      → (at < end → (start stop : ℕ) → at < start → stop ≤ end → inner start stop ≡ inner' start stop)
      → list_of s at end level (rest_after p (element_of inner (head_at s at end)))
      ≡ list_of s at end level (rest_after q (element_of inner' (head_at s at end)))
  list-agrees p q inner inner' f g = list-of-same _ _ (λ h.
      rest-of-same p q inner (element_of inner (head_at s at end)) refl (f h)
      ∙ ap (rest_after q) (element-of-same inner inner' (head_at s at end) refl (g h)))

pub list_same : (f g : ℕ) (s : List ℕ) (at end level : ℕ) → end - at ≤ f → end - at ≤ g
    → list_within f s at end level ≡ list_within g s at end level
unfolding list_within
list_same zero zero s at end level i j = refl
list_same zero (suc g) s at end level i j = list-of-same s at end level _ _ (λ h. absurd (omega arith))
list_same (suc f) zero s at end level i j = list-of-same s at end level _ _ (λ h. absurd (omega arith))
list_same (suc f) (suc g) s at end level i j = list-agrees s at end level _ _ _ _
    (λ h next k. list_same f g s next end level (omega arith) (omega arith))
    (λ h start stop k l. list_same f g s start stop (level + 1) (omega arith) (omega arith))

abbrev onward : List ℕ → ℕ → ℕ → ℕ → Bool
onward s at end level = list_of s at end level (rest_after (λ next. list_at s next end level) (element_at s at end level))

within-onward : (f : ℕ) (s : List ℕ) (at end level : ℕ) → end - at ≤ f → list_within f s at end level ≡ onward s at end level
unfolding list_within list_at element_at
within-onward zero s at end level i = list-of-same s at end level _ _ (λ h. absurd (omega arith))
within-onward (suc f) s at end level i = list-agrees s at end level _ _ _ _
    (λ h next k. list_same f (end - next) s next end level (omega arith) (omega arith))
    (λ h start stop k l. list_same f (stop - start) s start stop (level + 1) (omega arith) (omega arith))

pub list-onward : (s : List ℕ) (at end level : ℕ) (r : Bool)
    → r ≡ list_of s at end level (rest_after (λ next. list_at s next end level) (element_at s at end level)) → r ≡ list_at s at end level
unfolding list_at
list-onward s at end level r q = q ∙ sym (within-onward (end - at) s at end level (omega arith))
