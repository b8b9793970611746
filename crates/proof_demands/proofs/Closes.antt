-- A list after which a change has not stayed open has a first call that closes it; one with thirty ticks is such a list.
-- By induction over the calls. Assumes nothing.
use mathlib.Core.Path.{◌≡◌, refl, ap, sym}
use Prim.Native.Nat.{◌≤◌, ◌<◌}
use native.Mathlib.Omega.{arith}
use mathlib.Core.List.{List, [], ◌∷◌}
use mathlib.Core.Bool.{Bool, true, false, not, ◌&&◌, false≢true}
use Rattle.card_record.specs.Cards.{is_quiet}
use Rattle.card_record.specs.declared.Card.{Card}
use Rattle.rule_run.specs.Calls.{Call}
use Rattle.rule_run.specs.Runs.{ticks_among}
use Rattle.proof_demands.specs.Change.{stays_open, FirstClose, ThirtyTicksClose}

close-case : (reach : List Call → Card) (call : Call) (calls : List Call) (b : Bool) → is_quiet (reach (call ∷ [])).phase ≡ b → (stays_open (λ rest. reach (call ∷ rest)) calls ≡ false → FirstClose (λ rest. reach (call ∷ rest)) calls) → (not b && stays_open (λ rest. reach (call ∷ rest)) calls) ≡ false → FirstClose reach (call ∷ calls)
unfolding stays_open
close-case reach call calls true q r e =
    record { before = []; call = call; rest = calls; split = refl; open-before = refl; quiet-after = q }
close-case reach call calls false q r e =
    let x = r e in
    record {
      before = call ∷ x.before;
      call = x.call;
      rest = x.rest;
      split = ap (λ (l : List Call). call ∷ l) x.split;
      open-before = rw q x.open-before;
      quiet-after = x.quiet-after;
    }

first-close : (calls : List Call) (reach : List Call → Card) → stays_open reach calls ≡ false → FirstClose reach calls
unfolding stays_open
first-close [] reach e = absurd (false≢true (sym e))
first-close (call ∷ calls) reach e =
    close-case reach call calls (is_quiet (reach (call ∷ [])).phase) refl (first-close calls (λ rest. reach (call ∷ rest))) e

not-open : (reach : List Call → Card) (calls : List Call) (b : Bool) → stays_open reach calls ≡ b → (stays_open reach calls ≡ true → ticks_among calls < 30) → 30 ≤ ticks_among calls → b ≡ false
not-open reach calls true e f h = absurd (let k = f e in omega arith)
not-open reach calls false e f h = refl

pub thirty-ticks-close : ThirtyTicksClose
thirty-ticks-close wanted previous fallback last reach x calls h =
    first-close calls reach (not-open reach calls (stays_open reach calls) refl (x.thirty calls) h)
