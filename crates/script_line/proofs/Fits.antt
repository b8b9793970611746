-- Every order fits its line. Each word's reader is taken apart once (`by_bytes`, `by_value`, `by-sent`), and each order is a chain of
-- them; a reason fits any line.
use Prim.Native.Nat.{ℕ, ◌+◌, ◌≤◌, ◌<◌}
use mathlib.Core.Path.{◌≡◌, refl, sym, ap, subst}
use mathlib.Core.List.{List}
use native.Mathlib.Omega.{arith}
use lib.ListN.{length, get_or}
use Rattle.base_choice.specs.Choice.{pick, is_same}
use Rattle.text_words.specs.Words.{part, span, words_of, word_at, on_word}
use Rattle.text_words.specs.Hex.{is_hex}
use Rattle.text_words.specs.declared.words.Span.{Span}
use Rattle.std.specs.Prelude.{Option, Some, None, Result, Ok, Err}
use Rattle.base_choice.proofs.Branches.{each, by-lt, by-eq}
use Rattle.text_words.proofs.WordLists.{word-inside}
use Rattle.text_lines.specs.Lines.{longest}
use Rattle.base_bytes.specs.Bytes.{between}
use Rattle.base_bytes.specs.declared.Part.{Part}
use Rattle.record_door.specs.declared.Call.TheVariants as call
use Rattle.script_words.specs.Arguments.{most32, most8, on_some, on_ok, on_next, bytes_at, value_at}
use Rattle.script_line.specs.Orders.{hash, verb_of, most_buffer, count_ok, words_counted, inner, value_or, sent_at, record_words, order_by, order_of}
use Rattle.script_line.specs.Orders.{fresh_with, fresh_at, command_at, keyed_at, stored_at, finished_at, policy_line_at}
use Rattle.script_line.specs.Fits.{Fits, OrderFits, OrdersFit}
use Rattle.script_words.specs.declared.Reason.{Reason}
use Rattle.script_words.specs.declared.Reason.TheVariants.{WordsMissing, UnknownWord, BadHex}
use Rattle.script_words.specs.declared.Read.{Read}
use Rattle.script_line.specs.declared.Verb.{Verb}
use Rattle.script_line.specs.declared.Verb.TheVariants as verb
use Rattle.script_line.specs.declared.Sent.{Sent}
use Rattle.script_line.specs.declared.Order.{Order}
use Rattle.script_line.specs.declared.Order.TheVariants as order
use Rattle.script_words.proofs.Within.{value, value-within}

-- the number that was read
abbrev number : Result (Read ℕ) Reason → ℕ
number r = on_next r (λ why. 0) (λ n k. n)

-- what is read fits, whatever reason there may be
abbrev LineFits : List ℕ → Result Order Reason → Type 0
LineFits s (Err why) = Unit {0}
LineFits s (Ok o) = OrderFits s o

module _ (s : List ℕ) where
  or-on : (missing most at n k : ℕ) (w : Option Span) → missing ≤ most → value n k ≡ on_word w (value missing at) (λ a e. value_at most s at) → n ≤ most
  or-on missing most at n k None h q = let i : n ≡ missing = ap number q in omega arith
  or-on missing most at n k (Some w) h q = value-within most s at n k q

  pub or-within : (missing most at n k : ℕ) → missing ≤ most → value n k ≡ value_or missing most s at → n ≤ most
  unfolding value_or
  or-within missing most at n k h q = or-on missing most at n k (word_at s at) h q

module _ (s : List ℕ) (l : length s ≤ longest) where
  -- a byte string that was read: it stands after what was read before, and ends where reading goes on
  abbrev Stands : ℕ → Part → ℕ → Type 0
  Stands at p next = Fits s p × ((at ≤ p.start) × (p.start + p.len ≡ next))

  -- what is made of a word has a property where every reason has it, and every value that can be read
  module _ {X : Type 0} (P : X → Type 0) {wrong : Reason → X} (refused : (why : Reason) → P (wrong why)) where
    span-as : (at a e : ℕ) → (at ≤ a) × ((a < e) × (e ≤ length s)) → (f : Part → ℕ → X) → ((p : Part) (k : ℕ) → Stands at p k → P (f p k))
        → P (on_next (pick (is_hex (part s a e)) (Ok (record { value = between a e; next = e })) (Err BadHex)) wrong f)
    span-as at a e h f g =
        each (λ (b : Result (Read Part) Reason). P (on_next b wrong f)) (is_hex (part s a e))
        (λ t. g (between a e) e (record { some = omega arith; inside = omega arith; short = omega arith; hex = t }, (omega arith, omega arith)))
        (λ t. refused BadHex)

    word-as : (at : ℕ) (w : Option Span) → ((a e : ℕ) → span a e ≡ w → (at ≤ a) × ((a < e) × (e ≤ length s))) → (f : Part → ℕ → X) → ((p : Part) (k : ℕ) → Stands at p k → P (f p k))
        → P (on_next (on_word w (Err WordsMissing) λ a e. pick (is_hex (part s a e)) (Ok (record { value = between a e; next = e })) (Err BadHex)) wrong f)
    word-as at None i f g = refused WordsMissing
    word-as at (Some w) i f g = span-as at w.from w.to (i w.from w.to refl) f g

    bytes-as : (at : ℕ) (f : Part → ℕ → X) → ((p : Part) (k : ℕ) → Stands at p k → P (f p k)) → P (on_next (bytes_at s at) wrong f)
    unfolding bytes_at
    bytes-as at f g = word-as at (word_at s at) (word-inside s at) f g

    value_as : (v : Result (Read ℕ) Reason) (f : ℕ → ℕ → X) → ((n k : ℕ) → value n k ≡ v → P (f n k)) → P (on_next v wrong f)
    value_as (Err why) f g = refused why
    value_as (Ok v) f g = g v.value v.next refl

  by_bytes : (at : ℕ) (f : Part → ℕ → Result Order Reason) → ((p : Part) (k : ℕ) → Stands at p k → LineFits s (f p k)) → LineFits s (on_next (bytes_at s at) Err f)
  by_bytes = bytes-as (LineFits s) (λ why. tt)

  by_value : (v : Result (Read ℕ) Reason) (f : ℕ → ℕ → Result Order Reason) → ((n k : ℕ) → value n k ≡ v → LineFits s (f n k)) → LineFits s (on_next v Err f)
  by_value = value_as (LineFits s) (λ why. tt)

  by-sent : (at : ℕ) (f : Sent → Result Order Reason)
      → ((x : Sent) → Fits s x.bytes → at ≤ x.bytes.start → x.room ≤ most_buffer → LineFits s (f x))
      → LineFits s (on_ok (sent_at s at) Err f)
  unfolding sent_at
  by-sent at f g =
      let P : Result Sent Reason → Type 0 = λ x. LineFits s (on_ok x Err f) in
      bytes-as P (λ why. tt) at _ λ p b h.
      value_as P (λ why. tt) (value_or _ _ s b) _ λ room e r.
      let k = or-within s _ _ b room e (omega arith) r in
      g (record { bytes = p; room = room }) h.0 h.1.0 (omega arith)

  by_count : (least most n : ℕ) (o : Result Order Reason) → LineFits s o → LineFits s (words_counted least most n o)
  unfolding words_counted count_ok
  by_count least most n o g =
      let P : Result (Unit {0}) Reason → Type 0 = λ r. LineFits s (on_ok r Err λ counted. o) in
      by-lt P n least (λ h. tt) (λ h. by-lt P most n (λ k. tt) (λ k. g))

  fresh-with : (at : ℕ) (eid aid : Part) → Fits s eid → Fits s aid → LineFits s (fresh_with s at eid aid)
  unfolding fresh_with
  fresh-with at eid aid h k =
      by_value (value_at most32 s at) _ λ m b q.
      by_value (value_at most32 s b) _ λ n c q.
      by_value (value_at most32 s c) _ λ u d q.
      by_value (value_at most32 s d) _ λ v e q. (h, k)

  -- by the first word
  verb-fits : (v : Verb) (n at : ℕ) → LineFits s (order_by v n s at)
  unfolding order_by fresh_at command_at keyed_at stored_at finished_at policy_line_at
  verb-fits verb.Fresh n at =
      by_count 7 7 n _ (by_bytes at _ λ eid b h. by_bytes b _ λ aid c k. fresh-with c eid aid h.0 k.0)
  verb-fits verb.Command n at =
      by_count 3 4 n _ (by_value (value_at most8 s at) _ λ m b q. by-sent b _ λ x h i r. (h, r))
  verb-fits verb.Keyed n at = by_count 2 2 n _ (by_bytes at _ λ aid b h. (h.0, omega arith))
  verb-fits verb.Stored n at = by_count 3 3 n _ (by_bytes at _ λ aid b h. by_value (value_at most32 s b) _ λ m e q. (h.0, omega arith))
  verb-fits verb.Finished n at =
      by_count 3 4 n _
      (by_bytes at _ λ aid b h.
      by_value (value_at most8 s b) _ λ m c q.
      by_value (value_or _ _ s c) _ λ v e r. (h.0, omega arith))
  verb-fits verb.Tick n at = by_count 1 1 n (Ok (inner call.Tick)) (tt, omega arith)
  verb-fits verb.Lost n at = by_count 1 1 n (Ok (inner call.Lost)) (tt, omega arith)
  verb-fits verb.Policy n at =
      by_count 3 4 n _
      (by_bytes at _ λ speaker b h.
      by-sent b _ λ x k i r.
      ((let e = h.1.1 in omega arith, (h.0, k)), r))
  verb-fits verb.Card n at = by_count record_words record_words n (Ok (order.Record at)) tt

  word-fits : (v : Option Verb) (n at : ℕ) → LineFits s (on_some v (Err UnknownWord) λ verb. order_by verb n s at)
  word-fits None n at = tt
  word-fits (Some v) n at = verb-fits v n at

  line-fits : (w : Option Span)
      → LineFits s (on_word w (Ok order.Nothing) λ a e. pick (is_same (get_or s a 0) hash) (Ok order.Nothing) (on_some (verb_of (part s a e)) (Err UnknownWord) λ verb. order_by verb (length (words_of s)) s e))
  line-fits None = tt
  line-fits (Some w) =
      by-eq (LineFits s) (get_or s w.from 0) hash (λ h. tt) (λ h. word-fits (verb_of (part s w.from w.to)) (length (words_of s)) w.to)

order-fits : (s : List ℕ) → LineFits s (order_of s)
unfolding order_of
order-fits s = by-lt (LineFits s) longest (length s) (λ h. tt) (λ h. line-fits s h (word_at s 0))

pub orders-fit : OrdersFit
orders-fit s o q = subst (LineFits s) (sym q) (order-fits s)
