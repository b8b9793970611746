-- Files read back: the contents and the bodies of a file that is written are found (Bodies), the inputs and the events are read as they were
-- written, and what is accepted is the file of its own two bodies, each of which was so written.
use Prim.Native.Nat.{ℕ, ◌+◌, ◌≤◌, ◌<◌}
use mathlib.Core.Path.{◌≡◌, refl, sym, ap, ◌∙◌}
use mathlib.Core.List.{List, [], ◌++◌}
use mathlib.Core.Bool.{false}
use Rattle.std.specs.Prelude.{Option, Ok}
use native.Mathlib.Omega.{arith}
use lib.ListN.{length, take, drop, length-append, take-append-drop}
use lib.Seq.{take_at, drop_at, drop-drop, length-take-le}
use Rattle.base_bytes.specs.Bytes.{four_at, four_bytes, part_of}
use Rattle.base_status.specs.StatusWords.{is_done}
use Rattle.base_status.specs.Rows.{word_of}
use Rattle.card_record.specs.Answers.{accepted}
use Rattle.card_record.specs.Fresh.{fresh_outcome}
use Rattle.read_tlv.specs.Encoding.{Bytes}
use Rattle.month_contents.specs.Contents.{fresh_kind, events_kind, section_of}
use Rattle.base_bytes.specs.declared.Part.{Part}
use Rattle.month_contents.proofs.TwoSections.{two-sections}
use Rattle.month_events.specs.Events.{events_of, checked_of}
use Rattle.month_events.specs.Written.{encode_events}
use Rattle.month_events.specs.Logged.{event, LoggedAs.tick}
use Rattle.month_events.proofs.Written.{bytes_drop, bytes_take, events-back, events-written}
use Rattle.month_events.proofs.Logged.{four-back, bytes_same, logged-writable}
use Rattle.rule_run.specs.Calls as manager
use Rattle.rule_run.specs.Inputs.{Inputs, fresh_of}
use Rattle.month_file.specs.Inputs.{inputs_of, fresh_answer, fresh_bad}
use Rattle.month_file.specs.File.{part_in, body_of}
use Rattle.month_file.specs.Grammar.{encode_inputs, file_of, written, InputsWritable, ReadBack, WrittenBack, GrammarMet}
use Rattle.month_file.proofs.Opening.{checked-stop, not-bad}
use Rattle.month_file.proofs.Accepted as file
use Rattle.month_file.proofs.Bodies.{four-from, four-on, file-holds, file-laid}

inputs-same : {e e' a a' : List ℕ} {c c' q q' u u' v v' : ℕ} → e ≡ e' → c ≡ c' → q ≡ q' → u ≡ u' → v ≡ v' → a ≡ a'
    → ◌≡◌ {A = Inputs} (record { eid = e; capacity = c; quota = q; used = u; volatile = v; aid = a }) (record { eid = e'; capacity = c'; quota = q'; used = u'; volatile = v'; aid = a' })
inputs-same eid capacity quota used volatile aid = rw (eid, capacity, quota, used, volatile, aid)

-- the inputs that are written are read
module _ (x : Inputs) (can : InputsWritable x) where
  abbrev after : List ℕ
  after = four_bytes x.capacity ++ (four_bytes x.quota ++ (four_bytes x.used ++ (four_bytes x.volatile ++ x.aid)))

  rest-is : drop 16 (encode_inputs x) ≡ after
  rest-is = drop_at x.eid after 16 can.eid-16

  number : (i : ℕ) → four_at (encode_inputs x) (16 + i) ≡ four_at after i
  number i = sym (four-from (encode_inputs x) 16 i) ∙ ap (λ (l : List ℕ). four_at l i) rest-is

  pub inputs-back : inputs_of (encode_inputs x) ≡ x
  inputs-back =
      inputs-same
      (take_at x.eid after 16 can.eid-16)
      (number 0 ∙ four-back x.capacity can.capacity-four)
      (number 4 ∙ four-back x.quota can.quota-four)
      (number 8 ∙ four-back x.used can.used-four)
      (number 12 ∙ four-back x.volatile can.volatile-four)
      (sym (drop-drop 16 16 (encode_inputs x)) ∙ ap (drop 16) rest-is)

  enough : 32 ≤ length (encode_inputs x)
  enough = omega (arith, length-append x.eid after, can.eid-16)

  inputs-taken : fresh_bad (encode_inputs x) ≡ false
  unfolding fresh_answer
  inputs-taken = not-bad (encode_inputs x) enough (ap (λ (y : Inputs). is_done (fresh_of y).status) inputs-back ∙ can.taken)

pub read_back : ReadBack
read_back listed_first laid_first x es can size =
    let s = written listed_first laid_first x es in
    let h = file-holds listed_first laid_first (encode_inputs x) (encode_events es) size in
    let a = h.accepted in
    let back = events-back es can.events in
    let fresh : body_of s fresh_kind ≡ encode_inputs x = ap (λ (k : Option Part). part_of s (part_in k)) a.fresh-found ∙ h.fresh-is in
    let events : body_of s events_kind ≡ encode_events es = ap (λ (k : Option Part). part_of s (part_in k)) a.events-found ∙ h.events-is in
    record {
      accepted =
          sym (checked-stop s a.right h.fresh a.fresh-found h.events a.events-found
          (ap fresh_bad h.fresh-is ∙ inputs-taken x can.inputs) (Ok tt) (ap checked_of h.events-is ∙ back.0));
      inputs = ap inputs_of fresh ∙ inputs-back x can.inputs;
      events = ap events_of events ∙ back.1;
    }

-- inputs of enough bytes were so written
module _ (f : List ℕ) (w : Bytes f) (h : 32 ≤ length f) where
  pub inputs-written : encode_inputs (inputs_of f) ≡ f
  inputs-written =
      sym (ap (λ (r : List ℕ). take 16 f ++ r)
      (four-on f w 16 (four_at f 16) (omega arith) refl
      ∙ ap (λ (r : List ℕ). four_bytes (four_at f 16) ++ r)
      (four-on f w 20 (four_at f 20) (omega arith) refl
      ∙ ap (λ (r : List ℕ). four_bytes (four_at f 20) ++ r)
      (four-on f w 24 (four_at f 24) (omega arith) refl
      ∙ ap (λ (r : List ℕ). four_bytes (four_at f 24) ++ r) (four-on f w 28 (four_at f 28) (omega arith) refl)))))
      ∙ take-append-drop 16 f

four-small : (f : List ℕ) → Bytes f → (at : ℕ) → four_at f at < 4294967296
four-small f w at =
    let a = w at in
    let b = w (at + 1) in
    let c = w (at + 2) in
    let d = w (at + 2 + 1) in
    omega arith

pub written_back : WrittenBack
unfolding fresh_answer
written_back s w e =
    let a = file.accepted s e in
    let f = body_of s fresh_kind in
    let b = body_of s events_kind in
    let fw : Bytes f = bytes_take (part_in (section_of s fresh_kind)).len (drop (part_in (section_of s fresh_kind)).start s) (bytes_drop (part_in (section_of s fresh_kind)).start s w) in
    let bw : Bytes b = bytes_take (part_in (section_of s events_kind)).len (drop (part_in (section_of s events_kind)).start s) (bytes_drop (part_in (section_of s events_kind)).start s w) in
    let l = file-laid s (part_in (section_of s fresh_kind)) (part_in (section_of s events_kind)) w (two-sections s (part_in (section_of s fresh_kind)) (part_in (section_of s events_kind)) a.contents a.fresh-listed a.events-listed) in
    let v = events-written b bw a.right in
    record {
      listed_first = l.listed_first;
      laid_first = l.laid_first;
      bytes =
          l.is
          ∙ ap (λ (g : List ℕ). file_of l.listed_first l.laid_first g b) (sym (inputs-written f fw a.enough))
          ∙ ap (λ (g : List ℕ). file_of l.listed_first l.laid_first (encode_inputs (inputs_of f)) g) (sym v.0);
      can = record {
        inputs = record {
          eid-16 = length-take-le 16 f (omega (arith, a.enough));
          eid-octets = bytes_take 16 f fw;
          aid-octets = bytes_drop 32 f fw;
          capacity-four = four-small f fw 16;
          quota-four = four-small f fw 20;
          used-four = four-small f fw 24;
          volatile-four = four-small f fw 28;
          taken = a.made;
        };
        events = v.1;
      };
      size = a.size;
    }

pub grammar-met : GrammarMet
unfolding fresh_outcome word_of accepted
grammar-met =
    record {
      inputs = record {
        eid-16 = refl;
        eid-octets = bytes_same 16 0xE1 (omega arith);
        aid-octets = bytes_same 5 0xA0 (omega arith);
        capacity-four = omega arith;
        quota-four = omega arith;
        used-four = omega arith;
        volatile-four = omega arith;
        taken = refl;
      };
      events = (logged-writable manager.Call.Tick (event 5 []) (record { row = tick; short = omega arith; octets = bytes_same 0 0 (omega arith) }), tt);
    }
