-- GET STATUS, both directions: 4F stands first, empty or an AID, which only a listing that begins anew may name, and after it nothing or 5C
-- alone with its list of tags.
use Prim.Native.Nat.{ℕ, ◌+◌, ◌-◌, ◌≤◌}
use mathlib.Core.Path.{◌≡◌, refl, sym, ap, subst, ◌∙◌}
use mathlib.Core.List.{List, [], ◌++◌}
use mathlib.Core.Option.{Option, none, some}
use mathlib.Core.Bool.{Bool, false}
use native.Mathlib.Omega.{arith}
use lib.ListN.{length}
use Rattle.std.specs.Prelude as std
use Rattle.std.specs.Prelude.{Some, None}
use Rattle.base_bytes.specs.Bytes.{between, part_of}
use Rattle.read_tlv.specs.Tlv.{element_read, expect_at}
use Rattle.read_tlv.specs.Lists.{list_wrong}
use Rattle.read_tlv.specs.Filled.{Filled, ended, primitive}
use Rattle.read_tlv.specs.Encoding.{window, Bytes, encode_element}
use Rattle.base_choice.proofs.Branches.{no!, each, each-lt, each-eq, nlt!, eq!, ne! }
use Rattle.read_tlv.proofs.Inside.{expect-parts, expect-inside}
use Rattle.read_tlv.proofs.Windows.{window-none, window-length, window-part}
use Rattle.read_tlv.proofs.Fills.{right-filled, filled-right, first-level}
use Rattle.read_tlv.proofs.ReadBack.{element-back}
use Rattle.read_tlv.specs.Grammar as legal
use Rattle.card_isdp.specs.declared.Tags.{Tags}
use Rattle.read_fields.specs.declared.request.Request.TheVariants as request
use Rattle.read_fields.specs.Found.{Field}
use Rattle.read_elements.specs.Reader.{alone_at}
use Rattle.read_fields.specs.GetStatus.{tags_shown, tags_read, on_shown, rows_of, tags_at, listing_at}
use Rattle.read_fields.specs.Grammar.{Named, ListedTag, inquiry, Wanted, get_status, found_as, ReadFrom, Sought, all, one, Short, encode_tags, encode_list, shows_life, shows_fall_back, EncodesNext, ListingBack, ListingWritten, ListingFilled}
use Rattle.read_elements.proofs.Alone.{alone-expected, alone-written, alone-back}
use Rattle.read_fields.proofs.Parts.{part-named}
use Rattle.read_fields.proofs.ListedTags.{listed_back, listed-written}
use Rattle.read_fields.proofs.Cases.{each-shown, same-value, no_value}
use Rattle.read_tlv.proofs.Branches.{each-found}
use Rattle.read_tlv.proofs.Written.{elements-written}

-- ---- an encoded field is read back

empty : (s : List ℕ) (at end : ℕ) → at ≤ end → end ≤ length s → window s at end ≡ [] → at ≡ end
empty s at end o h q = let n : end - at ≡ 0 = sym (window-length s at end h) ∙ ap length q in omega arith

tags-back : (s : List ℕ) (at end : ℕ) → at ≤ end → end ≤ length s → (ts : Option (List ListedTag)) → Short ts
    → window s at end ≡ encode_list ts → (tags_read (shows_life ts) (shows_fall_back ts) ≡ tags_at s at end) × Filled s 1 at end
unfolding tags_at
tags-back s at end o h none short q =
    let e = empty s at end o h q in
    (eq! _ e refl, subst (λ (k : ℕ). Filled s 1 k end) (sym e) (ended first-level h))
tags-back s at end o h (some ts) short q =
    let a = alone-back s at end o h 0x5C 0 255 (encode_tags ts) (legal.one (omega arith) (omega arith)) (omega arith) short q in
    let i = (alone-expected s at end 0x5C 0 255 a.start end a.found).inside in
    (ne! _ (omega arith) (rw (← a.found) (listed_back ts s a.start end i.ordered h a.value)), primitive first-level a.head (ended first-level h))

sought-most : {next : Bool} {who : List ℕ} → Sought next who → length who ≤ 16
sought-most all = omega arith
sought-most (one named) = named.most

module _ (s : List ℕ) (life shown : Bool) where
  -- the rows for a value of 4F that is `who`
  who-back : (next : Bool) (who : List ℕ) → Sought next who → (start stop : ℕ) → stop ≡ start + length who → window s start stop ≡ who
      → found_as s (rows_of next start stop life shown) ≡ some (get_status (inquiry next who life shown))
  who-back next who all start stop l q =
      let r : Some (request.GetStatusOfAll next (tags_shown life shown)) ≡ rows_of next start stop life shown = eq! _ (omega arith) refl in
      rw (← r) refl
  who-back next who (one named) start stop l q =
      let k = named.least in
      let r : Some (request.GetStatusOfOne (between start stop) (tags_shown life shown)) ≡ rows_of false start stop life shown =
      ne! _ (omega arith) (no! _ refl (nlt! _ (omega arith) refl)) in
      rw (← r) (ap (λ (a : List ℕ). some (get_status (inquiry false a life shown))) (window-part s start stop (omega arith) ∙ q))

pub listing-back : ListingBack
unfolding listing_at
listing-back s at end v o h e =
    let a = element-back s at end o h 0x4F 0 16 v.who (encode_list e.tags) (legal.one (omega arith) (omega arith)) (omega arith) (sought-most e.sought) e.written in
    let t = tags-back s a.stop end a.within h e.tags e.short a.after in
    let r : rows_of v.next a.start a.stop (shows_life e.tags) (shows_fall_back e.tags) ≡ listing_at v.next s at end =
    no! _ (filled-right (primitive first-level a.head t.1)) (rw (← a.found) (rw (← t.0) refl)) in
    rw (← r) (rw (← e.life_asked) (rw (← e.fall_back_asked)
    (who-back s v.life v.fall_back_shown v.next v.who e.sought a.start a.stop a.long a.value)))

-- ---- what is accepted is so encoded

pub record ListWritten (s : List ℕ) (at end : ℕ) (life shown : Bool) : Type 0 where
  pub tags : Option (List ListedTag)
  pub short : Short tags
  pub lists : life ≡ shows_life tags
  pub lists_too : shown ≡ shows_fall_back tags
  pub bytes : window s at end ≡ encode_list tags

tags-written : (s : List ℕ) (at end : ℕ) (life shown : Bool) → Bytes s → tags_read life shown ≡ tags_at s at end → ListWritten s at end life shown
unfolding tags_at
tags-written s at end life shown b =
    let P : std.Option Tags → Type 0 = λ z. tags_read life shown ≡ z → ListWritten s at end life shown in
    let none' : P None = λ q. let z : ◌≡◌ {A = ℕ} 0 1 = cc in absurd (omega arith) in
    each-eq P
    (λ h q. record {
      tags = none;
      short = tt;
      lists = ap (λ (z : std.Option Tags). on_shown z false (λ seen _. seen)) q;
      lists_too = ap (λ (z : std.Option Tags). on_shown z false (λ _ seen. seen)) q;
      bytes = ap (λ (n : ℕ). window s n end) h ∙ window-none s end;
    })
    (λ _. each-found P (alone_at s at end 0x5C 0 255) none' λ start stop g q.
    let x = alone-expected s at end 0x5C 0 255 start stop g in
    let i = x.inside in let m = x.most in
    let w = listed-written s start stop life shown b i.ordered q in
    let n : length (encode_tags w.list) ≡ stop - start = ap length (sym w.bytes) ∙ window-length s start stop (omega arith) in
    let k : length (encode_tags w.list) ≤ 255 = omega arith in
    record {
      tags = some w.list;
      short = k;
      lists = w.lists;
      lists_too = w.lists_too;
      bytes = alone-written s at end 0x5C 0 255 start stop b g ∙ ap (encode_element 0x5C) w.bytes;
    })

module _ (next : Bool) (s : List ℕ) (at end : ℕ) (w : Wanted) (b : Bytes s) where
  abbrev Encoded : Wanted → Type 0
  Encoded z = ReadFrom get_status (EncodesNext next) s at end z

  abbrev Accepted : Field → Type 0
  Accepted z = found_as s z ≡ some w → Encoded w

  module _ (start stop : ℕ) (q : element_read start stop ≡ expect_at s at end 0x4F 0 16) where
    who-written : (who : List ℕ) (life shown : Bool) → Sought next who → window s start stop ≡ who → tags_read life shown ≡ tags_at s stop end
        → Encoded (get_status (inquiry next who life shown))
    who-written who life shown sought e t =
        let i = expect-inside s at end 0x4F 0 16 start stop q in
        let l = tags-written s stop end life shown b t in
        record {
          ordered = omega arith;
          held = omega arith;
          value = inquiry next who life shown;
          meant = refl;
          encoded = (
            refl,
            record {
              tags = l.tags;
              sought = sought;
              short = l.short;
              life_asked = l.lists;
              fall_back_asked = l.lists_too;
              written = elements-written s at end 0x4F 0 16 start stop b q
                  ∙ ap (λ (a : List ℕ). encode_element 0x4F a ++ window s stop end) e
                  ∙ ap (λ (a : List ℕ). encode_element 0x4F who ++ a) l.bytes;
            },
          );
        }

  accepted : Accepted (listing_at next s at end)
  unfolding listing_at
  accepted = each Accepted (list_wrong s at end) (λ _. no_value (Encoded w) w) λ _.
      each-found Accepted (expect_at s at end 0x4F 0 16) (no_value (Encoded w) w) λ start stop q.
      each-shown Accepted (tags_at s stop end) (no_value (Encoded w) w) λ life shown g.
      let x = expect-parts s at end 0x4F 0 16 start stop q in
      let i = x.inside in
      let p : part_of s (between start stop) ≡ window s start stop = window-part s start stop i.ordered in
      each-eq Accepted
      (λ h.
      let m : start ≡ stop = omega arith in
      same-value Encoded (get_status (inquiry next [] life shown)) w
      (who-written start stop q [] life shown all (ap (λ (n : ℕ). window s n stop) m ∙ window-none s stop) g))
      (λ _. each Accepted _ (λ _. no_value (Encoded w) w) λ anew. each-lt Accepted (λ _. no_value (Encoded w) w) (λ (k : 5 ≤ stop - start).
      let named : Named (part_of s (between start stop)) = subst Named (sym p) (part-named s start stop i.ordered (omega arith) (omega arith) x.most) in
      same-value Encoded (get_status (inquiry false (part_of s (between start stop)) life shown)) w
      (subst (λ (n : Bool). Encoded (get_status (inquiry n (part_of s (between start stop)) life shown))) anew
      (who-written start stop q (part_of s (between start stop)) life shown (subst (λ (n : Bool). Sought n (part_of s (between start stop))) (sym anew) (one named)) (sym p) g))))

pub listing-written : ListingWritten
listing-written next s at end w b q = accepted next s at end w b q

pub listing-filled : ListingFilled
unfolding listing_at
listing-filled next s at end r = each (λ (z : Field). Some r ≡ z → Filled s 1 at end) (list_wrong s at end)
    (λ _ q. let z : ◌≡◌ {A = ℕ} 0 1 = cc in absurd (omega arith)) (λ e _. right-filled s at end e)
