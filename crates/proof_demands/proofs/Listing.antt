-- The parts join to the listing: of a whole listing begun or gone on with at a place, the responses joined are the rows from that place on, by
-- induction over it; each part but the last takes at least 229 bytes of these. Assumes nothing.
use mathlib.Core.Path.{◌≡◌, refl, sym, ap, subst, ◌∙◌}
use Prim.Native.Nat.{ℕ, zero, suc, ◌+◌, ◌*◌, ◌-◌, ◌≤◌, ◌<◌}
use native.Mathlib.Omega.{arith}
use mathlib.Core.List.{List, [], ◌∷◌, ◌++◌, append-nil}
use mathlib.Core.Bool.{Bool, true, false, cond, ◌&&◌, false≢true}
use lib.ListN.{length, drop, replicate, length-append}
use lib.Seq.{get_or-drop}
use lib.Dec.{eqb}
use borrow.Author.Tests.{eqb-true, eqb-false}
use Rattle.base_choice.specs.Choice.{pick, is_below}
use Rattle.base_status.specs.StatusWords.{number_of, is_done}
use Rattle.base_status.specs.declared.Status.{Status}
use Rattle.base_status.specs.declared.Status.TheVariants.{More, Done}
use Rattle.card_isdp.specs.Sizes.{most_places}
use Rattle.card_isdp.specs.Place.{vacant, held}
use Rattle.card_isdp.specs.declared.Isdp.{Isdp}
use Rattle.card_places.specs.Places.{at}
use Rattle.card_record.specs.Cards.{no_place, keeping}
use Rattle.card_record.specs.Sound.{sound}
use Rattle.card_record.specs.Answers.{Outcome, accepted, outcome}
use Rattle.card_record.specs.declared.Card.{Card}
use Rattle.card_record.proofs.Sounds.{parts}
use Rattle.rule_responses.specs.Responses.{most_row, attribute_of, status_row, row_of, row_size, rows_from, listing_from, listing, part_given}
use Rattle.rule_responses.proofs.Parts.{Given, Given.all, Given.some, given, part-short}
use Rattle.rule_responses.proofs.Rows.{row_sized}
use Rattle.rule_responses.proofs.Lengths.{aid_fits, row-length, all-at, sound-fits, sound-listing-length}
use Rattle.read_tlv.specs.Encoding.{encode_tag, encode_length, encode_element}
use Rattle.read_fields.specs.Grammar as field
use Rattle.read_command.specs.Grammar.{second_of}
use Rattle.read_command.proofs.SameTags.{encodes-alike, second-right}
use Rattle.rule_steps.specs.Asked.{Asked, Asked.status_of_all}
use Rattle.rule_steps.specs.Steps.{begins_at, goes_on_at, part_word, step_of, response_of, asked_work}
use Rattle.rule_steps.proofs.Rows.{Passed}
use Rattle.rule_steps.proofs.Successes.{part-done}
use Rattle.rule_steps.proofs.Laws.Answer.{asked-passed, asked-taken-as}
use Rattle.rule_run.specs.Calls.{Call, asked}
use Rattle.rule_run.specs.Step.{step}
use Rattle.rule_run.proofs.Kept.{step-sound}
use Rattle.proof_demands.specs.Room.{Writes.commands}
use Rattle.proof_demands.proofs.Written.{written-answered}
use Rattle.proof_demands.proofs.Demand2.{standing}
use Rattle.proof_demands.proofs.Demand1.{refusals}
use Rattle.proof_demands.specs.Listing.{Lists, Whole, Whole.ends, Whole.goes_on, Whole.between, joined, parts_among, EachPart, PartsJoin, WithField, WithField.with-field, AsksForAll, SameFieldJoins, ListingEnds}

-- a call for rows is answered as what it asks
lists-answered : (c : Card) (next life shown : Bool) (call : Call) → Lists life shown next c call → step c call ≡ outcome c (asked_work c (status_of_all next life shown))
lists-answered c next life shown _ (commands verdict s room h encoded) = written-answered c verdict s room (field.get_status (field.inquiry next [] life shown)) h encoded

more-not-done : ◌≡◌ {A = Status} More Done → ⊥
more-not-done e = let z : ◌≡◌ {A = ℕ} 0x6310 0x9000 = ap number_of e in absurd (omega arith)

-- a place that is held has a row, and so have the places with it
rows-some : (holder place : ℕ) (life shown : Bool) (ps : List Isdp) (j : ℕ) → held (at ps j) ≡ true → 1 ≤ length (rows_from holder place life shown ps)
unfolding rows_from row_of status_row
rows-some holder place life shown [] j h = absurd (false≢true h)
rows-some holder place life shown (p ∷ ps) zero h = rw h (omega arith)
rows-some holder place life shown (p ∷ ps) (suc j) h =
    let k = rows-some holder (suc place) life shown ps j h in
    omega (arith, k, length-append (row_of p (attribute_of holder place) life shown) (rows_from holder (suc place) life shown ps))

module _ (c : Card) (e : sound c ≡ true) (life shown : Bool) where
  listing-some : (from j : ℕ) → from ≤ j → held (at c.places j) ≡ true → 1 ≤ length (listing_from c from life shown)
  unfolding listing_from
  listing-some from j k h =
      let d : from + (j - from) ≡ j = omega arith in
      rows-some c.fallback from life shown (drop from c.places) (j - from) (rw (get_or-drop from c.places (j - from) vacant, d) h)

  -- a row has at most 27 bytes
  row-short : (j : ℕ) → row_size (at c.places j) life shown ≤ most_row
  row-short j =
      let p = at c.places j in
      let n = row_sized p 0 life shown in
      let k = row-length p 0 life shown (all-at aid_fits c.places j (sound-fits c e) refl) in
      omega (arith, n, k)

  -- a part begun where rows are to come has one
  part-some : (from : ℕ) (part : List ℕ) (left : ℕ) → Given c life shown from part left → 1 ≤ length (listing_from c from life shown) → 1 ≤ length part
  part-some from part left (all q) h = rw (← q) h
  part-some from part left (some w q) h = omega (arith, w.full, row-short left)

  -- where a listing begins, rows are to come: at the lowest place, or at a kept one
  begins : (next : Bool) → (next ≡ true → c.kept ≡ no_place → ⊥) → 1 ≤ length (listing_from c (begins_at c next) life shown)
  begins true n = listing-some c.kept c.kept (omega arith) ((standing c e).kept-held (n refl))
  begins false n = listing-some 0 c.fallback (omega arith) (standing c e).fallback-held

  -- a call for rows that is accepted
  module _ (next : Bool) (call : Call) (l : Lists life shown next c call) (d : is_done (step c call).status ≡ true) where
    abbrev a : Asked
    a = status_of_all next life shown

    answered : step c call ≡ outcome c (asked_work c a)
    answered = lists-answered c next life shown call l

    passes : Passed c a
    passes = asked-passed c a (subst (λ (o : Outcome). is_done o.status ≡ true) answered d)

    taken : step c call ≡ accepted (part_word (goes_on_at c next life shown)) (step_of c a) (response_of c a)
    taken = answered ∙ asked-taken-as c a (part_word (goes_on_at c next life shown)) (part-done (goes_on_at c next life shown)) refl e passes

    status-is : (step c call).status ≡ part_word (goes_on_at c next life shown)
    unfolding accepted
    status-is = ap (λ (o : Outcome). o.status) taken

    card-is : (step c call).card ≡ keeping c (goes_on_at c next life shown)
    unfolding accepted
    card-is = ap (λ (o : Outcome). o.card) taken

    response-is : (step c call).response ≡ part_given c (begins_at c next) life shown
    unfolding accepted
    response-is = ap (λ (o : Outcome). o.response) taken

    kept_there : next ≡ true → c.kept ≡ no_place → ⊥
    kept_there q = eqb-false c.kept no_place (subst (λ (b : Bool). (b && eqb c.kept no_place) ≡ false) q passes.target)

    has-row : (1 ≤ length (step c call).response) × (length (step c call).response ≤ 255)
    has-row =
        rw response-is
        (part-some (begins_at c next) _ _ (given c life shown (begins_at c next)) (begins next kept_there), part-short c life shown (begins_at c next))

-- the word tells whether a place is left
word-last : (left : ℕ) (b : Bool) → eqb left no_place ≡ b → cond b Done More ≡ Done → left ≡ no_place
word-last left true q h = eqb-true left no_place q
word-last left false q h = absurd (more-not-done h)

word-part : (left : ℕ) (b : Bool) → eqb left no_place ≡ b → cond b Done More ≡ More → left ≡ no_place → ⊥
word-part left true q h z = more-not-done (sym h)
word-part left false q h z = eqb-false left no_place q z

-- what a part leaves, by its word
all-given : (c : Card) (life shown : Bool) (from : ℕ) (part : List ℕ) (left : ℕ) → Given c life shown from part left → length c.places ≡ most_places → left ≡ no_place → listing_from c from life shown ≡ part
all-given c life shown from part left (all q) n z = q
all-given c life shown from part left (some w q) n z = absurd (let h = w.high in omega arith)

some-given : (c : Card) (life shown : Bool) (from : ℕ) (part : List ℕ) (left : ℕ) → sound c ≡ true → Given c life shown from part left → (left ≡ no_place → ⊥) → (listing_from c from life shown ≡ part ++ listing_from c left life shown) × (229 ≤ length part)
some-given c life shown from part left e (all q) n = absurd (n refl)
some-given c life shown from part left e (some w q) n = (q, omega (arith, w.full, row-short c e life shown left))

-- the rows of a card that only keeps another place
listing-kept : (c : Card) (i from : ℕ) (life shown : Bool) → listing_from (keeping c i) from life shown ≡ listing_from c from life shown
unfolding listing_from
listing-kept c i from life shown = refl

-- a part that is not the last takes 229 bytes of the rows to come
taken-off : (c : Card) (next life shown : Bool) → sound c ≡ true → (goes_on_at c next life shown ≡ no_place → ⊥) → length (listing_from c (goes_on_at c next life shown) life shown) + 229 ≤ length (listing_from c (begins_at c next) life shown)
taken-off c next life shown e z =
    let q = some-given c life shown (begins_at c next) _ (goes_on_at c next life shown) e (given c life shown (begins_at c next)) z in
    omega (arith, q.1, ap length q.0, length-append (part_given c (begins_at c next) life shown) (listing_from c (goes_on_at c next life shown) life shown))

-- what is to be shown of a listing, begun or gone on with
record Held (life shown next : Bool) (c : Card) (calls : List Call) : Type 0 where
  rows : joined step c calls ≡ listing_from c (begins_at c next) life shown
  few : 229 * parts_among step c calls ≤ length (listing_from c (begins_at c next) life shown) + 229
  each : EachPart step c calls

joins : (life shown next : Bool) (c : Card) (calls : List Call) → sound c ≡ true → Whole step (Lists life shown) next c calls → Held life shown next c calls
unfolding joined parts_among
joins life shown next c [] e x = elim x [ ]
joins life shown next c (call ∷ []) e (ends l d) =
    let done : is_done (step c call).status ≡ true = ap is_done d in
    let left = goes_on_at c next life shown in
    let z = word-last left (eqb left no_place) refl (sym (status-is c e life shown next call l done) ∙ d) in
    let q = all-given c life shown (begins_at c next) _ left (given c life shown (begins_at c next)) (parts c e).sizes.full z in
    record {
      rows = rw append-nil (response-is c e life shown next call l done ∙ sym q);
      few = rw done (omega arith);
      each = (λ _. has-row c e life shown next call l done, tt);
    }
joins life shown next c (call ∷ calls) e (goes_on l d w) =
    let done : is_done (step c call).status ≡ true = ap is_done d in
    let left = goes_on_at c next life shown in
    let z = word-part left (eqb left no_place) refl (sym (status-is c e life shown next call l done) ∙ d) in
    let q = some-given c life shown (begins_at c next) _ left e (given c life shown (begins_at c next)) z in
    let k = card-is c e life shown next call l done in
    let r = joins life shown true (step c call).card calls (step-sound c call e) w in
    let rest : listing_from (step c call).card (step c call).card.kept life shown ≡ listing_from c left life shown = rw k (listing-kept c left left life shown) in
    let o = response-is c e life shown next call l done in
    record {
      rows = rw (o, r.rows, rest) (sym q.0);
      few = rw done (omega (arith, r.few, taken-off c next life shown e z, ap length rest));
      each = (λ _. has-row c e life shown next call l done, r.each);
    }
joins life shown true c (call ∷ calls) e (between n w) =
    let h = refusals c call n in
    let r = joins life shown true (step c call).card calls (step-sound c call e) w in
    let rest : listing_from (step c call).card (step c call).card.kept life shown ≡ listing_from c c.kept life shown = ap (λ (d : Card). listing_from d d.kept life shown) h.same-card in
    record {
      rows = rw h.no-response (r.rows ∙ rest);
      few = rw n (omega (arith, r.few, ap length rest));
      each = (λ t. absurd (false≢true (sym n ∙ t)), r.each);
    }

pub parts_join : PartsJoin step
parts_join c life shown calls e w =
    let h = joins life shown false c calls e w in
    record {
      the-listing = h.rows;
      four-at-most = omega (arith, h.few, sound-listing-length c e life shown);
      each = h.each;
    }

-- ---- with the same data field throughout

-- the data field says the tags, whichever P2 stands before it
lists-with : (life shown next : Bool) (bytes : List ℕ) (c : Card) (call : Call) → AsksForAll life shown bytes → WithField bytes next c call → Lists life shown next c call
unfolding encode_element encode_tag encode_length pick is_below
lists-with life shown _ bytes c _ asks (with-field next verdict class room with_le right h) =
    let x = asks.encoded in
    let starts : bytes ≡ 0x4F ∷ 0x00 ∷ field.encode_list x.tags = x.written in
    commands verdict _ room h
    (record {
      command = record {
        class = class;
        p1 = 0x40;
        p2 = second_of next;
        field = bytes;
        with_le = with_le;
        right_class = right;
        right_parameters = second-right next;
        least = rw starts (omega arith);
        most = asks.most;
        encoded = encodes-alike false next life shown bytes x;
        written = refl;
      };
      second = refl;
    })

-- what asks so asks otherwise too
asks-as : {answer : Card → Call → Outcome} {A B : Bool → Card → Call → Type 0} {next : Bool} {c : Card} {calls : List Call} → ((next : Bool) (c : Card) (call : Call) → A next c call → B next c call) → Whole answer A next c calls → Whole answer B next c calls
asks-as f (ends x d) = ends (f _ _ _ x) d
asks-as f (goes_on x d w) = goes_on (f _ _ _ x) d (asks-as f w)
asks-as f (between n w) = between n (asks-as f w)

pub whole-lists : (answer : Card → Call → Outcome) (life shown next : Bool) (bytes : List ℕ) (c : Card) (calls : List Call) → AsksForAll life shown bytes → Whole answer (WithField bytes) next c calls → Whole answer (Lists life shown) next c calls
whole-lists answer life shown next bytes c calls asks w = asks-as (λ n d call. lists-with life shown n bytes d call asks) w

pub same-field-joins : SameFieldJoins step
same-field-joins c life shown bytes calls e asks w = parts_join c life shown calls e (whole-lists step life shown false bytes c calls asks w)

-- a call for rows is accepted, but for one with P2 03 where no place is kept
accepted-lists : (c : Card) (life shown next : Bool) (call : Call) → sound c ≡ true → Lists life shown next c call → (next && eqb c.kept no_place) ≡ false → is_done (step c call).status ≡ true
unfolding accepted
accepted-lists c life shown next call e l n =
    let left = goes_on_at c next life shown in
    let p : Passed c (status_of_all next life shown) = record { change = refl; target = n; already = refl; state = refl; policy = refl; verdict = refl; room = refl } in
    ap (λ (o : Outcome). is_done o.status) (lists-answered c next life shown call l ∙ asked-taken-as c (status_of_all next life shown) (part_word left) (part-done left) refl e p)
    ∙ part-done left

-- every part but the last takes 229 bytes of the rows to come, so it ends within as many parts as these allow
module _ (life shown : Bool) (bytes : List ℕ) (asks : AsksForAll life shown bytes) (further : Call) (goes : (c : Card) → WithField bytes true c further) where
  ends-here : (c : Card) (next : Bool) (call : Call) → sound c ≡ true → WithField bytes next c call → (next && eqb c.kept no_place) ≡ false → eqb (goes_on_at c next life shown) no_place ≡ true → Whole step (WithField bytes) next c (call ∷ [])
  ends-here c next call e w n q =
      let l = lists-with life shown next bytes c call asks w in
      ends w (status-is c e life shown next call l (accepted-lists c life shown next call e l n) ∙ rw q)

  ends-within : (k : ℕ) (c : Card) (next : Bool) (call : Call) (last : Bool) → sound c ≡ true → WithField bytes next c call → (next && eqb c.kept no_place) ≡ false → eqb (goes_on_at c next life shown) no_place ≡ last → length (listing_from c (begins_at c next) life shown) < 229 * k + 229
      → (n : ℕ) × ((n ≤ k) × Whole step (WithField bytes) next c (call ∷ replicate n further))
  ends-within zero c next call true e w n q h = (0, (omega arith, ends-here c next call e w n q))
  ends-within zero c next call false e w n q h =
      absurd (let t = taken-off c next life shown e (eqb-false _ no_place q) in omega arith)
  ends-within (suc k) c next call true e w n q h = (0, (omega arith, ends-here c next call e w n q))
  ends-within (suc k) c next call false e w n q h =
      let l = lists-with life shown next bytes c call asks w in
      let done = accepted-lists c life shown next call e l n in
      let d = (step c call).card in
      let left = goes_on_at c next life shown in
      let there = card-is c e life shown next call l done in
      let rest : listing_from d d.kept life shown ≡ listing_from c left life shown = rw there (listing-kept c left left life shown) in
      let r = ends-within k d true further (eqb (goes_on_at d true life shown) no_place) (step-sound c call e) (goes d) (ap (λ (x : Card). eqb x.kept no_place) there ∙ q) refl (omega (arith, taken-off c next life shown e (eqb-false _ no_place q), ap length rest)) in
      (suc r.0, (omega (arith, r.1.0), goes_on w (status-is c e life shown next call l done ∙ rw q) r.1.1))

anywhere : {bytes : List ℕ} {next : Bool} {c : Card} {call : Call} (d : Card) → WithField bytes next c call → WithField bytes next d call
anywhere d (with-field next verdict class room with_le right h) = with-field next verdict class room with_le right h

pub listing-ends : ListingEnds step
listing-ends c life shown bytes first next e asks f g =
    ends-within life shown bytes asks next (λ d. anywhere d g) 3 c false first (eqb (goes_on_at c false life shown) no_place) e f refl refl
    (omega (arith, sound-listing-length c e life shown))
