-- A file of two bodies, written and read: numbers of four bytes are read back (`four-back`), so the contents list what was written, and each
-- body is the part that its entry names.
use Prim.Native.Nat.{ℕ, ◌+◌, ◌≤◌, ◌<◌}
use mathlib.Core.Path.{◌≡◌, refl, sym, ap, ◌∙◌}
use mathlib.Core.List.{List, ◌++◌}
use mathlib.Core.Bool.{Bool, true, false}
use mathlib.Core.Logic.{◌⊎◌, inl, inr, ⊎_elim}
use native.Mathlib.Omega.{arith}
use native.Mathlib.Nat.{add-zero}
use lib.ListN.{length, take, drop, length-append, length-drop, take-append-drop}
use lib.Seq.{take_at, drop_at, drop-drop, take-length, take_all, get_or-drop, length-take-le}
use Rattle.read_tlv.specs.Encoding.{Bytes}
use Rattle.month_events.proofs.Written.{bytes_drop}
use Rattle.month_events.proofs.Logged.{four-back, four_is}
use Rattle.base_bytes.specs.Bytes.{four_at, four_bytes, part_of}
use Rattle.base_bytes.specs.declared.Part.{Part}
use Rattle.month_contents.specs.Contents.{most_file}
use Rattle.month_contents.specs.Written.{entry, two_sections}
use Rattle.month_contents.proofs.TwoSections.{Lists, Chain, TwoSections, Accepted, two-accepted}
use Rattle.month_file.specs.Grammar.{file_of}

-- the contents list what was written
module _ (k : ℕ) (p : Part) (l : ℕ) (q : Part) (bodies : List ℕ) (k-four : k < 4294967296) (l-four : l < 4294967296) where
  abbrev listed : List ℕ
  listed = two_sections (entry k p.start p.len) (entry l q.start q.len) bodies

  pub lists : p.start + p.len < 4294967296 → q.start + q.len < 4294967296 → Lists listed k p l q
  lists a b =
      record {
        two = refl;
        entry-0 = record { kind-is = four-back k k-four; start_is = four-back p.start (omega arith); length-is = four-back p.len (omega arith) };
        entry-1 = record { kind-is = four-back l l-four; start_is = four-back q.start (omega arith); length-is = four-back q.len (omega arith) };
      }

-- two bodies, laid in this order after the contents
module _ (u v : List ℕ) where
  abbrev first : Part
  first = record { start = 28; len = length u }

  abbrev second : Part
  second = record { start = 28 + length u; len = length v }

  chain : (s : List ℕ) → length s ≡ 28 + length (u ++ v) → Chain s first second
  chain s e = record { first-starts = refl; second-starts = refl; second-ends = omega (arith, length-append u v) }

  first_part : (s : List ℕ) → drop 28 s ≡ u ++ v → part_of s first ≡ u
  first_part s e = ap (take (length u)) e ∙ take_at u v (length u) refl

  second-part : (s : List ℕ) → drop 28 s ≡ u ++ v → part_of s second ≡ v
  second-part s e =
      ap (take (length v)) (sym (drop-drop (length u) 28 s) ∙ ap (drop (length u)) e ∙ drop_at u v (length u) refl) ∙ take-length v

-- what is found in a file of two bodies: the contents are right, and the bodies are those
pub record Holds (s f b : List ℕ) : Type 0 where
  pub fresh : Part
  pub events : Part
  pub accepted : Accepted s fresh events
  pub fresh-is : part_of s fresh ≡ f
  pub events-is : part_of s events ≡ b

module _ (u v s : List ℕ) (size : length s ≡ 28 + length (u ++ v)) (bodies : drop 28 s ≡ u ++ v) (most : length s ≤ most_file) where
  abbrev one : Part
  one = first u v

  abbrev two : Part
  two = second u v

  -- the inputs are laid first, or the events
  inputs-first : Lists s 1 one 2 two ⊎ Lists s 2 two 1 one → Holds s u v
  inputs-first l =
      record {
        fresh = one;
        events = two;
        accepted = two-accepted s one two (record { listed = l; laid = inl (chain u v s size) }) most;
        fresh-is = first_part u v s bodies;
        events-is = second-part u v s bodies;
      }

  events-first : Lists s 1 two 2 one ⊎ Lists s 2 one 1 two → Holds s v u
  events-first l =
      record {
        fresh = two;
        events = one;
        accepted = two-accepted s two one (record { listed = l; laid = inr (chain u v s size) }) most;
        fresh-is = second-part u v s bodies;
        events-is = first_part u v s bodies;
      }

pub file-holds : (listed_first laid_first : Bool) (f b : List ℕ) → length (file_of listed_first laid_first f b) ≤ most_file → Holds (file_of listed_first laid_first f b) f b
file-holds true true f b h =
    let e = length-append f b in
    inputs-first f b (file_of true true f b) (omega arith) refl h
    (inl (lists 1 (first f b) 2 (second f b) (f ++ b) (omega arith) (omega arith) (omega arith) (omega arith)))
file-holds false true f b h =
    let e = length-append f b in
    inputs-first f b (file_of false true f b) (omega arith) refl h
    (inr (lists 2 (second f b) 1 (first f b) (f ++ b) (omega arith) (omega arith) (omega arith) (omega arith)))
file-holds true false f b h =
    let e = length-append b f in
    events-first b f (file_of true false f b) (omega arith) refl h
    (inl (lists 1 (second b f) 2 (first b f) (b ++ f) (omega arith) (omega arith) (omega arith) (omega arith)))
file-holds false false f b h =
    let e = length-append b f in
    events-first b f (file_of false false f b) (omega arith) refl h
    (inr (lists 2 (first b f) 1 (second b f) (b ++ f) (omega arith) (omega arith) (omega arith) (omega arith)))

-- the other way round: the numbers in a file are the bytes that stand there
pub four-from : (s : List ℕ) (at i : ℕ) → four_at (drop at s) i ≡ four_at s (at + i)
four-from s at i =
    let one : at + (i + 1) ≡ at + i + 1 = omega arith in
    let two : at + (i + 2) ≡ at + i + 2 = omega arith in
    let three : at + (i + 2 + 1) ≡ at + i + 2 + 1 = omega arith in
    rw (get_or-drop at s i 0, get_or-drop at s (i + 1) 0, get_or-drop at s (i + 2) 0, get_or-drop at s (i + 2 + 1) 0, one, two, three)

module _ (s : List ℕ) (w : Bytes s) where
  pub four-on : (at n : ℕ) → at + 4 ≤ length s → four_at s at ≡ n → drop at s ≡ four_bytes n ++ drop (at + 4) s
  four-on at n h e =
      let l = length-drop at s in
      four_is (drop at s) (bytes_drop at s w) (omega arith)
      ∙ ap (λ (k : ℕ). four_bytes k ++ drop 4 (drop at s)) (four-from s at 0 ∙ ap (four_at s) (add-zero at) ∙ e)
      ∙ ap (λ (r : List ℕ). four_bytes n ++ r) (drop-drop 4 at s)

  -- the contents are their numbers written
  pub listing-is : (k : ℕ) (p : Part) (l : ℕ) (q : Part) → 28 ≤ length s → Lists s k p l q
      → s ≡ two_sections (entry k p.start p.len) (entry l q.start q.len) (drop 28 s)
  listing-is k p l q h x =
      four-on 0 2 (omega arith) x.two
      ∙ ap (λ (r : List ℕ). four_bytes 2 ++ r)
      (four-on 4 k (omega arith) x.entry-0.kind-is
      ∙ ap (λ (r : List ℕ). four_bytes k ++ r)
      (four-on 8 p.start (omega arith) x.entry-0.start_is
      ∙ ap (λ (r : List ℕ). four_bytes p.start ++ r)
      (four-on 12 p.len (omega arith) x.entry-0.length-is
      ∙ ap (λ (r : List ℕ). four_bytes p.len ++ r)
      (four-on 16 l (omega arith) x.entry-1.kind-is
      ∙ ap (λ (r : List ℕ). four_bytes l ++ r)
      (four-on 20 q.start (omega arith) x.entry-1.start_is
      ∙ ap (λ (r : List ℕ). four_bytes q.start ++ r) (four-on 24 q.len (omega arith) x.entry-1.length-is))))))

-- two bodies that fill the file after the contents are what follows them
module _ (s : List ℕ) (p q : Part) (c : Chain s p q) where
  abbrev u : List ℕ
  u = part_of s p

  abbrev v : List ℕ
  v = part_of s q

  left-length : length u ≡ p.len
  left-length = let a = c.first-starts in let e = c.second-ends in length-take-le p.len (drop p.start s) (omega (arith, length-drop p.start s))

  right-length : length v ≡ q.len
  right-length =
      let a = c.second-starts in
      let e = c.second-ends in
      length-take-le q.len (drop q.start s) (omega (arith, length-drop q.start s))

  bodies-are : drop 28 s ≡ u ++ v
  bodies-are =
      let e = c.second-ends in
      let l = length-drop 28 s in
      let m = length-drop p.len (drop 28 s) in
      let a : take p.len (drop 28 s) ≡ u = ap (λ (n : ℕ). take p.len (drop n s)) (sym c.first-starts) in
      let b : drop p.len (drop 28 s) ≡ v =
      sym (take_all q.len (drop p.len (drop 28 s)) (omega arith))
      ∙ ap (take q.len) (drop-drop p.len 28 s)
      ∙ ap (λ (n : ℕ). take q.len (drop n s)) (sym c.second-starts) in
      sym (take-append-drop p.len (drop 28 s))
      ∙ ap (λ (t : List ℕ). t ++ drop p.len (drop 28 s)) a
      ∙ ap (λ (t : List ℕ). u ++ t) b

  first-is : p ≡ first u v
  first-is = ap (λ (n : ℕ). record { start = n; len = p.len }) c.first-starts ∙ ap (λ (n : ℕ). record { start = 28; len = n }) (sym left-length)

  second_is : q ≡ second u v
  second_is =
      ap (λ (n : ℕ). record { start = n; len = q.len }) (c.second-starts ∙ ap (λ (n : ℕ). 28 + n) (sym left-length))
      ∙ ap (λ (n : ℕ). record { start = 28 + length u; len = n }) (sym right-length)

listing-as : (k l : ℕ) {p p' q q' : Part} {r r' : List ℕ} → p ≡ p' → q ≡ q' → r ≡ r'
    → two_sections (entry k p.start p.len) (entry l q.start q.len) r ≡ two_sections (entry k p'.start p'.len) (entry l q'.start q'.len) r'
listing-as k l a b c = rw (a, b, c)

-- a file whose contents are right and list both sections is the file of its two bodies
pub record Laid (s f b : List ℕ) : Type 0 where
  pub listed_first : Bool
  pub laid_first : Bool
  pub is : s ≡ file_of listed_first laid_first f b

pub file-laid : (s : List ℕ) (a b : Part) → Bytes s → TwoSections s a b → Laid s (part_of s a) (part_of s b)
file-laid s a b w t =
    ⊎_elim
    (λ c. ⊎_elim
    (λ l. record { listed_first = true; laid_first = true; is = listing-is s w 1 a 2 b (omega (arith, c.second-ends)) l ∙ listing-as 1 2 (first-is s a b c) (second_is s a b c) (bodies-are s a b c) })
    (λ l. record { listed_first = false; laid_first = true; is = listing-is s w 2 b 1 a (omega (arith, c.second-ends)) l ∙ listing-as 2 1 (second_is s a b c) (first-is s a b c) (bodies-are s a b c) })
    t.listed)
    (λ c. ⊎_elim
    (λ l. record { listed_first = true; laid_first = false; is = listing-is s w 1 a 2 b (omega (arith, c.second-ends)) l ∙ listing-as 1 2 (second_is s b a c) (first-is s b a c) (bodies-are s b a c) })
    (λ l. record { listed_first = false; laid_first = false; is = listing-is s w 2 b 1 a (omega (arith, c.second-ends)) l ∙ listing-as 2 1 (first-is s b a c) (second_is s b a c) (bodies-are s b a c) })
    t.listed)
    t.laid
