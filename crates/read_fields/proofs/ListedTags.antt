-- The tags in 5C, both directions, by induction: on the list of tags for reading it back, on the count for what was read. The reader carries the
-- flags seen so far; from none seen they say which tags the list has.
use Prim.Native.Nat.{ℕ, zero, suc, ◌-◌, ◌≤◌, ◌<◌}
use mathlib.Core.Path.{◌≡◌, refl, sym, ap, ◌∙◌}
use mathlib.Core.List.{List, [], ◌∷◌, ◌++◌}
use mathlib.Core.Bool.{Bool, true, false}
use native.Mathlib.Omega.{arith}
use lib.ListN.{length}
use Rattle.std.specs.Prelude.{Option, None}
use Rattle.read_tlv.specs.Tlv.{tag_read, tag_at}
use Rattle.read_tlv.specs.Encoding.{window, Bytes, encode_tag}
use Rattle.base_choice.proofs.Branches.{each-le, each-eq, le!, nle!, eq!, ne! }
use Rattle.read_tlv.proofs.Inside.{tag-inside}
use Rattle.read_tlv.proofs.Windows.{window-none, window-length, window-cut}
use Rattle.read_tlv.proofs.Written.{tag-written}
use Rattle.read_tlv.specs.Grammar.{LegalTag, one, two}
use Rattle.read_tlv.proofs.ReadBack.{tag_back}
use Rattle.card_isdp.specs.declared.Tags.{Tags}
use Rattle.read_fields.specs.GetStatus.{tags_read, tag_noted, on_tag, on_shown, listed_within, listed_at}
use Rattle.read_fields.specs.Grammar.{ListedTag, aid, life_cycle, fall_back, tag_number, encode_tags, lists_life, lists_fall_back}
use Rattle.read_fields.proofs.Cases.{each-tag}

-- the flags after a list, from those seen so far
abbrev pub sees_life : Bool → List ListedTag → Bool
sees_life l [] = l
sees_life l (aid ∷ ts) = sees_life l ts
sees_life l (life_cycle ∷ ts) = sees_life true ts
sees_life l (fall_back ∷ ts) = sees_life l ts

abbrev pub sees_fall_back : Bool → List ListedTag → Bool
sees_fall_back f [] = f
sees_fall_back f (aid ∷ ts) = sees_fall_back f ts
sees_fall_back f (life_cycle ∷ ts) = sees_fall_back f ts
sees_fall_back f (fall_back ∷ ts) = sees_fall_back true ts

life-stays : (ts : List ListedTag) → sees_life true ts ≡ true
life-stays [] = refl
life-stays (aid ∷ ts) = life-stays ts
life-stays (life_cycle ∷ ts) = life-stays ts
life-stays (fall_back ∷ ts) = life-stays ts

fall-back-stays : (ts : List ListedTag) → sees_fall_back true ts ≡ true
fall-back-stays [] = refl
fall-back-stays (aid ∷ ts) = fall-back-stays ts
fall-back-stays (life_cycle ∷ ts) = fall-back-stays ts
fall-back-stays (fall_back ∷ ts) = fall-back-stays ts

pub life-listed : (ts : List ListedTag) → sees_life false ts ≡ lists_life ts
life-listed [] = refl
life-listed (aid ∷ ts) = life-listed ts
life-listed (life_cycle ∷ ts) = life-stays ts
life-listed (fall_back ∷ ts) = life-listed ts

pub fall-back-listed : (ts : List ListedTag) → sees_fall_back false ts ≡ lists_fall_back ts
fall-back-listed [] = refl
fall-back-listed (aid ∷ ts) = fall-back-listed ts
fall-back-listed (life_cycle ∷ ts) = fall-back-listed ts
fall-back-listed (fall_back ∷ ts) = fall-back-stays ts

legal : (t : ListedTag) → LegalTag (tag_number t)
legal aid = one {t = 0x4F} (omega arith) (omega arith)
legal life_cycle = two {t = 0x9F70} (omega arith) (omega arith) (omega arith)
legal fall_back = one {t = 0x53} (omega arith) (omega arith)

noted-tag : (t : ListedTag) (l f : Bool) → tags_read (sees_life l (t ∷ [])) (sees_fall_back f (t ∷ [])) ≡ tag_noted (tag_number t) l f
unfolding tag_noted
noted-tag aid l f = eq! _ refl refl
noted-tag life_cycle l f = ne! _ (omega arith) (eq! _ refl refl)
noted-tag fall_back l f = ne! _ (omega arith) (ne! _ (omega arith) (eq! _ refl refl))

sees-next-life : (t : ListedTag) (ts : List ListedTag) (l : Bool) → sees_life (sees_life l (t ∷ [])) ts ≡ sees_life l (t ∷ ts)
sees-next-life aid ts l = refl
sees-next-life life_cycle ts l = refl
sees-next-life fall_back ts l = refl

sees-next-fall-back : (t : ListedTag) (ts : List ListedTag) (f : Bool) → sees_fall_back (sees_fall_back f (t ∷ [])) ts ≡ sees_fall_back f (t ∷ ts)
sees-next-fall-back aid ts f = refl
sees-next-fall-back life_cycle ts f = refl
sees-next-fall-back fall_back ts f = refl

-- ---- an encoded list is read back

within-back : (ts : List ListedTag) (n : ℕ) (s : List ℕ) (at end : ℕ) (l f : Bool) → at ≤ end → end ≤ length s → end - at ≤ n
    → window s at end ≡ encode_tags ts → tags_read (sees_life l ts) (sees_fall_back f ts) ≡ listed_within n s at end l f
unfolding encode_tags listed_within
within-back [] zero s at end l f o h i q = refl
within-back [] (suc n) s at end l f o h i q =
    let e : end - at ≡ 0 = sym (window-length s at end h) ∙ ap length q in
    le! _ (omega arith) refl
within-back (t ∷ ts) zero s at end l f o h i q =
    let b = tag_back s at end o h (tag_number t) (encode_tags ts) (legal t) q in
    let p = b.past in let w = b.within in absurd (omega arith)
within-back (t ∷ ts) (suc n) s at end l f o h i q =
    let b = tag_back s at end o h (tag_number t) (encode_tags ts) (legal t) q in
    let p = b.past in let w = b.within in
    nle! _ (omega arith) (rw (← b.read) (rw (← noted-tag t l f) (rw (← sees-next-life t ts l) (rw (← sees-next-fall-back t ts f)
    (within-back ts n s b.next end (sees_life l (t ∷ [])) (sees_fall_back f (t ∷ [])) w h (omega arith) b.after)))))

pub listed_back : (ts : List ListedTag) (s : List ℕ) (at end : ℕ) → at ≤ end → end ≤ length s
    → window s at end ≡ encode_tags ts → tags_read (lists_life ts) (lists_fall_back ts) ≡ listed_at s at end
unfolding listed_at
listed_back ts s at end o h q =
    rw (← life-listed ts) (rw (← fall-back-listed ts) (within-back ts (end - at) s at end false false o h (omega arith) q))

-- ---- what is read is so encoded

pub record TagsWritten (s : List ℕ) (at end : ℕ) (l f life shown : Bool) : Type 0 where
  pub list : List ListedTag
  pub sees : life ≡ sees_life l list
  pub sees_too : shown ≡ sees_fall_back f list
  pub bytes : window s at end ≡ encode_tags list

module _ (s : List ℕ) (end : ℕ) (b : Bytes s) (life shown : Bool) where
  ends : (at : ℕ) (l f : Bool) → at ≡ end → tags_read life shown ≡ tags_read l f → TagsWritten s at end l f life shown
  unfolding encode_tags
  ends at l f h q = record {
    list = [];
    sees = ap (λ (z : Option Tags). on_shown z false (λ seen _. seen)) q;
    sees_too = ap (λ (z : Option Tags). on_shown z false (λ _ seen. seen)) q;
    bytes = ap (λ (n : ℕ). window s n end) h ∙ window-none s end;
  }

  goes_on : (at next : ℕ) (l f c : Bool) (t : ListedTag) → tag_read (tag_number t) c next ≡ tag_at s at end
      → TagsWritten s next end (sees_life l (t ∷ [])) (sees_fall_back f (t ∷ [])) life shown → TagsWritten s at end l f life shown
  unfolding encode_tags
  goes_on at next l f c t g r =
      let i = tag-inside s at end (tag_number t) c next g in
      record {
        list = t ∷ r.list;
        sees = r.sees ∙ sees-next-life t r.list l;
        sees_too = r.sees_too ∙ sees-next-fall-back t r.list f;
        bytes = window-cut s at next end (omega arith) i.within i.held
            ∙ ap (λ (a : List ℕ). a ++ window s next end) (tag-written s at end (tag_number t) c next b g)
            ∙ ap (λ (a : List ℕ). encode_tag (tag_number t) ++ a) r.bytes;
      }

  module _ (n at : ℕ) (l f : Bool)
      (onward : (next : ℕ) (l' f' : Bool) → at < next → next ≤ end → tags_read life shown ≡ listed_within n s next end l' f' → TagsWritten s next end l' f' life shown) where
    tag-first : tags_read life shown ≡ on_tag (tag_at s at end) None (λ t next. on_shown (tag_noted t l f) None (λ l' f'. listed_within n s next end l' f'))
        → TagsWritten s at end l f life shown
    unfolding tag_noted
    tag-first =
        let Q : Option Tags → Type 0 = λ z. tags_read life shown ≡ z → TagsWritten s at end l f life shown in
        let none : Q None = λ q. let z : ◌≡◌ {A = ℕ} 0 1 = cc in absurd (omega arith) in
        each-tag Q (tag_at s at end) none λ t c next g.
        let P : Option Tags → Type 0 = λ z. Q (on_shown z None (λ l' f'. listed_within n s next end l' f')) in
        let i = tag-inside s at end t c next g in
        let by : (u : ListedTag) → t ≡ tag_number u → tag_read (tag_number u) c next ≡ tag_at s at end = λ u h. ap (λ (m : ℕ). tag_read m c next) (sym h) ∙ g in
        each-eq P (λ h q. goes_on at next l f c aid (by aid h) (onward next l f i.past i.within q))
        (λ _. each-eq P (λ h q. goes_on at next l f c life_cycle (by life_cycle h) (onward next true f i.past i.within q))
        (λ _. each-eq P (λ h q. goes_on at next l f c fall_back (by fall_back h) (onward next l true i.past i.within q))
        (λ _. none)))

  within-written : (n at : ℕ) (l f : Bool) → at ≤ end → end - at ≤ n → tags_read life shown ≡ listed_within n s at end l f → TagsWritten s at end l f life shown
  unfolding listed_within
  within-written zero at l f o h = ends at l f (omega arith)
  within-written (suc n) at l f o h =
      let P : Option Tags → Type 0 = λ z. tags_read life shown ≡ z → TagsWritten s at end l f life shown in
      each-le P (λ k. ends at l f (omega arith)) (λ k. tag-first n at l f (λ next l' f' i j. within-written n next l' f' j (omega arith)))

pub record ListedWritten (s : List ℕ) (at end : ℕ) (life shown : Bool) : Type 0 where
  pub list : List ListedTag
  pub lists : life ≡ lists_life list
  pub lists_too : shown ≡ lists_fall_back list
  pub bytes : window s at end ≡ encode_tags list

pub listed-written : (s : List ℕ) (at end : ℕ) (life shown : Bool) → Bytes s → at ≤ end → tags_read life shown ≡ listed_at s at end
    → ListedWritten s at end life shown
unfolding listed_at
listed-written s at end life shown b o q =
    let r = within-written s end b life shown (end - at) at false false o (omega arith) q in
    record {
      list = r.list;
      lists = r.sees ∙ life-listed r.list;
      lists_too = r.sees_too ∙ fall-back-listed r.list;
      bytes = r.bytes;
    }
