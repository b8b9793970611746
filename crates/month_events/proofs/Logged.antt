-- The event of a call is read as that call: row by row, by computing the kind of its number. An event that can be written is the event of
-- its call: by its kind, whose number is known. Bodies follow from the events' own grammar. Assumes nothing.
use Prim.Native.Nat.{ℕ, ◌+◌, ◌*◌, ◌/◌, ◌%◌, ◌≤◌, ◌<◌}
use mathlib.Core.Path.{◌≡◌, refl, sym, ap, subst, ◌∙◌}
use mathlib.Core.List.{List, [], ◌∷◌, ◌++◌}
use mathlib.Core.Bool.{false}
use Rattle.std.specs.Prelude.{Result, Ok, Err}
use native.Mathlib.Nat.{div-div-eq-div-mul}
use native.Mathlib.Omega.{arith}
use lib.ListN.{length, take, drop, length-append, take-append-drop, replicate, get_or-replicate, length-replicate, get_or-eq_default}
use lib.Seq.{take_at, drop_at, drop-drop, length-take-le}
use borrow.Author.Tests.{le-ltb}
use Rattle.base_bytes.specs.Bytes.{byte, four_at, four_bytes}
use Rattle.base_choice.specs.Choice.{pick, is_same}
use Rattle.base_choice.proofs.Branches.{on-lt}
use Rattle.read_tlv.specs.Encoding.{Bytes}
use Rattle.rule_run.specs.Calls as manager
use Rattle.month_events.specs.Kinds.{kind_of, call_for}
use Rattle.month_events.specs.Events.{Event, events_of, of_unknown_kind, of_wrong_length, call_of_event, calls_of}
use Rattle.month_events.specs.Numbers.{RightLength}
use Rattle.month_events.specs.Written.{Writable, AllWritable}
use Rattle.month_events.specs.Logged.{event, LoggedAs, LoggedAs.command, LoggedAs.keyed, LoggedAs.stored, LoggedAs.old-finished, LoggedAs.tick, LoggedAs.lost, LoggedAs.finished, LoggedAs.policy-update, Logged, AllLogged, CallsBack, CallsWritten, CallsMet, OneTable}
use Rattle.month_events.specs.declared.Kind.{Kind}
use Rattle.month_events.specs.declared.Kind.TheVariants as kind
use Rattle.month_events.specs.declared.NoKind.{NoKind}
use Rattle.month_events.proofs.Turns.{call-in}
use Rattle.month_events.proofs.Numbers.{Numbered, numbered, kinds-in-numbers}
use Rattle.month_events.proofs.Written.{events-back, events-written}

-- a number of four bytes is read back, and four bytes are those of their number
pub four-back : (n : ℕ) → n < 4294967296 → (n / 16777216 % 256 * 256 + n / 65536 % 256) * 65536 + (n / 256 % 256 * 256 + n % 256) ≡ n
four-back n h =
    let two : n / 256 / 256 ≡ n / 65536 = div-div-eq-div-mul n 256 256 in
    let three : n / 65536 / 256 ≡ n / 16777216 = div-div-eq-div-mul n 65536 256 in
    let top : n / 16777216 % 256 ≡ n / 16777216 = omega arith in
    omega arith

pub four_is : (l : List ℕ) → Bytes l → 4 ≤ length l → l ≡ four_bytes (four_at l 0) ++ drop 4 l
four_is [] w h = absurd (omega arith)
four_is (a ∷ []) w h = absurd (omega arith)
four_is (a ∷ b ∷ []) w h = absurd (omega arith)
four_is (a ∷ b ∷ c ∷ []) w h = absurd (omega arith)
four_is (a ∷ b ∷ c ∷ d ∷ r) w h =
    let a_byte : a < 256 = w 0 in
    let b-byte : b < 256 = w 1 in
    let c-byte : c < 256 = w 2 in
    let d-byte : d < 256 = w 3 in
    let n = (a * 256 + b) * 65536 + (c * 256 + d) in
    let ea : n / 16777216 % 256 ≡ a = omega arith in
    let eb : n / 65536 % 256 ≡ b = omega arith in
    let ec : n / 256 % 256 ≡ c = omega arith in
    let ed : n % 256 ≡ d = omega arith in
    sym (ap (λ (x : ℕ). x ∷ n / 65536 % 256 ∷ n / 256 % 256 ∷ n % 256 ∷ r) ea
    ∙ ap (λ (x : ℕ). a ∷ x ∷ n / 256 % 256 ∷ n % 256 ∷ r) eb
    ∙ ap (λ (x : ℕ). a ∷ b ∷ x ∷ n % 256 ∷ r) ec
    ∙ ap (λ (x : ℕ). a ∷ b ∷ c ∷ x ∷ r) ed)

four-small : (f : List ℕ) → Bytes f → four_at f 0 < 4294967296
four-small f w =
    let a = w 0 in
    let b = w 1 in
    let c = w 2 in
    let d = w 3 in
    omega arith

-- the event of a call is read as that call
read_as : (call : manager.Call) (e : Event) → LoggedAs call e → call_of_event e ≡ call
unfolding kind_of pick is_same
read_as call e (command {verdict} {s}) = refl
read_as call e (keyed {aid}) = refl
read_as call e (stored {aid} {n} h) = ap (manager.Call.Stored aid) (four-back n h)
read_as call e (old-finished {aid} {policy}) = refl
read_as call e tick = refl
read_as call e lost = refl
read_as call e (finished {aid} {policy} {mark}) = refl
read_as call e (policy-update {speaker} {s}) =
    let n = length speaker in
    ap (λ (l : List ℕ). manager.Call.PolicyUpdate (take n (speaker ++ s)) l 256) (sym (drop-drop n 1 (n ∷ (speaker ++ s))) ∙ drop_at speaker s n refl)
    ∙ ap (λ (l : List ℕ). manager.Call.PolicyUpdate l s 256) (take_at speaker s n refl)

-- and passes both tests
tests-pass : (call : manager.Call) (e : Event) → LoggedAs call e → (of_unknown_kind e ≡ false) × (of_wrong_length e ≡ false)
unfolding kind_of pick is_same
tests-pass call e (command {verdict} {s}) = (refl, le-ltb (length (verdict ∷ s)) 1 (omega arith))
tests-pass call e keyed = (refl, refl)
tests-pass call e (stored {aid} {n} h) = (refl, le-ltb (length (four_bytes n ++ aid)) 4 (omega arith))
tests-pass call e (old-finished {aid} {policy}) = (refl, le-ltb (length (policy ∷ aid)) 1 (omega arith))
tests-pass call e tick = (refl, refl)
tests-pass call e lost = (refl, refl)
tests-pass call e (finished {aid} {policy} {mark}) = (refl, le-ltb (length (policy ∷ mark ∷ aid)) 2 (omega arith))
tests-pass call e (policy-update {speaker} {s}) =
    (refl, le-ltb (length (length speaker ∷ (speaker ++ s))) (1 + length speaker) (omega (arith, length-append speaker s)))

pub logged-writable : (call : manager.Call) (e : Event) → Logged call e → Writable e
logged-writable call e l =
    let p = tests-pass call e l.row in
    let known = kinds-in-numbers.only-known e p.0 in
    record { least = known.0; most = known.1; right = kinds-in-numbers.only-right e p.1; short = l.short; octets = l.octets }

-- the other way round: the event of each kind is the row of its call
command-row : (bytes : List ℕ) → 1 ≤ length bytes → LoggedAs (call_for (Ok kind.Command) bytes) (event 1 bytes)
command-row [] h = absurd (omega arith)
command-row (x ∷ r) h = command

stored_row : (bytes : List ℕ) → Bytes bytes → 4 ≤ length bytes → LoggedAs (call_for (Ok kind.Stored) bytes) (event 3 bytes)
stored_row bytes w h =
    subst (λ (l : List ℕ). LoggedAs (call_for (Ok kind.Stored) bytes) (event 3 l)) (sym (four_is bytes w h)) (stored (four-small bytes w))

old_row : (bytes : List ℕ) → 1 ≤ length bytes → LoggedAs (call_for (Ok kind.Finished) bytes) (event 4 bytes)
old_row [] h = absurd (omega arith)
old_row (x ∷ r) h = old-finished

-- an event without bytes
none_row : (call : manager.Call) (n : ℕ) (bytes : List ℕ) → length bytes ≡ 0 → LoggedAs call (event n []) → LoggedAs call (event n bytes)
none_row call n [] h row = row
none_row call n (x ∷ r) h row = absurd (omega arith)

finished-row : (bytes : List ℕ) → 2 ≤ length bytes → LoggedAs (call_for (Ok kind.FinishedWithMark) bytes) (event 7 bytes)
finished-row [] h = absurd (omega arith)
finished-row (x ∷ []) h = absurd (omega arith)
finished-row (x ∷ y ∷ r) h = finished

update-row : (bytes : List ℕ) → 1 + byte bytes 0 ≤ length bytes → LoggedAs (call_for (Ok kind.Policy) bytes) (event 8 bytes)
update-row [] h = absurd (omega arith)
update-row (m ∷ r) h =
    let row : LoggedAs (manager.Call.PolicyUpdate (take m r) (drop m r) 256) (event 8 (length (take m r) ∷ (take m r ++ drop m r))) = policy-update in
    rw (← drop-drop m 1 (m ∷ r)) (rw (length-take-le m r (omega arith), take-append-drop m r) at row)

module _ (n : ℕ) (bytes : List ℕ) (right : RightLength n bytes) (octets : Bytes bytes) where
  row_at : (k : Result Kind NoKind) → Numbered n k → 1 ≤ n → n ≤ 8 → LoggedAs (call_for k bytes) (event n bytes)
  row_at (Ok kind.Command) h l m = rw h (command-row bytes (right.command h))
  row_at (Ok kind.Keyed) h l m = rw h keyed
  row_at (Ok kind.Stored) h l m = rw h (stored_row bytes octets (right.stored h))
  row_at (Ok kind.Finished) h l m = rw h (old_row bytes (right.finished h))
  row_at (Ok kind.Tick) h l m = rw h (none_row manager.Call.Tick 5 bytes (right.tick h) tick)
  row_at (Ok kind.Lost) h l m = rw h (none_row manager.Call.Lost 6 bytes (right.lost h) lost)
  row_at (Ok kind.FinishedWithMark) h l m = rw h (finished-row bytes (right.finished-with-mark h))
  row_at (Ok kind.Policy) h l m = rw h (update-row bytes (right.policy-update h))
  row_at (Err e) h l m = let g = h l in absurd (omega arith)

pub writable-logged : (e : Event) → Writable e → Logged (call_of_event e) e
writable-logged e w =
    record {
      row = row_at e.kind e.bytes w.right w.octets (kind_of e.kind) (numbered e.kind) w.least w.most;
      short = w.short;
      octets = w.octets;
    }

-- all the events of a body
pub all-writable : (calls : List manager.Call) (es : List Event) → AllLogged calls es → AllWritable es
all-writable [] [] l = tt
all-writable [] (e ∷ es) l = absurd l
all-writable (call ∷ calls) [] l = tt
all-writable (call ∷ calls) (e ∷ es) l = (logged-writable call e l.0, all-writable calls es l.1)

pub all_read : (calls : List manager.Call) (es : List Event) → AllLogged calls es → calls_of es ≡ calls
unfolding calls_of
all_read [] [] l = refl
all_read [] (e ∷ es) l = absurd l
all_read (call ∷ calls) [] l = absurd l
all_read (call ∷ calls) (e ∷ es) l = rw (read_as call e l.0.row, all_read calls es l.1)

pub all-logged : (es : List Event) → AllWritable es → AllLogged (calls_of es) es
unfolding calls_of
all-logged [] w = tt
all-logged (e ∷ es) w = (writable-logged e w.0, all-logged es w.1)

pub calls_back : CallsBack
calls_back calls es l =
    let b = events-back es (all-writable calls es l) in
    (b.0, ap calls_of b.1 ∙ all_read calls es l)

pub calls-written : CallsWritten
calls-written b w p =
    let v = events-written b w p in
    (v.0, all-logged (events_of b) v.1)

pub bytes_same : (n v : ℕ) → v < 256 → Bytes (replicate n v)
bytes_same n v h i =
    on-lt i n
    (λ k. let e = get_or-replicate n i v 0 k in omega arith)
    (λ k. let e = get_or-eq_default (replicate n v) 0 {n = i} (omega (arith, length-replicate n v)) in omega arith)

keyed-met : (n : ℕ) → n < 65536 → Logged (manager.Call.Keyed (replicate n 0xA0)) (event 2 (replicate n 0xA0))
keyed-met n h =
    let l = length-replicate {A = ℕ} n 0xA0 in
    record { row = keyed; short = omega arith; octets = bytes_same n 0xA0 (omega arith) }

pub calls-met : CallsMet
calls-met =
    (keyed-met 17 (omega arith), (keyed-met 65535 (omega arith), (record { row = tick; short = omega arith; octets = bytes_same 0 0 (omega arith) }, tt)))

pub one_table : OneTable
one_table = call-in
