-- Refusals: the first row that holds, by induction over the rows; of a refused file there is no card and no event, by what opening gives
-- there; and the table of files, by computing.
use Prim.Native.Nat.{ℕ}
use mathlib.Core.Path.{◌≡◌, refl, sym, ap, ◌∙◌}
use mathlib.Core.List.{List, [], ◌∷◌, ◌++◌}
use mathlib.Core.Bool.{Bool, true, false, cond}
use Rattle.std.specs.Prelude.{Result, Err}
use native.Mathlib.Omega.{arith}
use Rattle.base_choice.specs.Choice.{pick, is_same}
use Rattle.base_status.specs.Rows.{word_of}
use Rattle.card_record.specs.Answers.{refused, accepted}
use Rattle.card_record.specs.Fresh.{fresh_outcome}
use Rattle.month_contents.specs.Below.{some_below, first_below, sum_below}
use Rattle.month_contents.specs.Contents.{contents_wrong, section_of}
use Rattle.month_events.specs.Kinds.{kind_of}
use Rattle.month_events.specs.Events.{events_within, events_of, cut_within, cut_short, some_event, kind_unknown, wrong_length}
use Rattle.base_bytes.specs.Bytes.{part_of}
use Rattle.month_events.proofs.Turns.{events-none}
use Rattle.month_file.specs.Inputs.{fresh_answer, fresh_bad}
use Rattle.month_file.specs.File.{Verdict.Refused, RefusalRow, refusal_rows, first_of, verdict_of, opened_of}
use Rattle.month_file.specs.Refusals as table
use Rattle.month_file.specs.Refusals.{NoneRefuses, FirstRefusal, card_in, events_in, Refusing, RefusalTable}
use Rattle.month_file.specs.declared.Refusal.{Refusal}
use Rattle.month_file.specs.declared.Opened.{Opened}
use Rattle.month_file.proofs.Opening.{opened-as, opened-verdict}
use Rattle.month_file.proofs.Accepted.{passed, none-refuses}

first_holds : (xs : List RefusalRow) (x : RefusalRow) (ys : List RefusalRow) → NoneRefuses xs → x.when ≡ true → first_of (xs ++ x ∷ ys) ≡ Refused x.refusal
unfolding first_of
first_holds [] x ys n h = rw h
first_holds (r ∷ xs) x ys n h = rw n.0 (first_holds xs x ys n.1 h)

only-case : (x : RefusalRow) (xs : List RefusalRow) (r : Refusal) (t : Bool) → x.when ≡ t → cond t (Refused x.refusal) (first_of xs) ≡ Refused r → (first_of xs ≡ Refused r → FirstRefusal xs r) → FirstRefusal (x ∷ xs) r
only-case x xs r true h e f = record { before = []; this = x; after = xs; split = refl; none_before = tt; holds = h; name = cc }
only-case x xs r false h e f =
    let g = f e in
    record {
      before = x ∷ g.before;
      this = g.this;
      after = g.after;
      split = ap (λ (l : List RefusalRow). x ∷ l) g.split;
      none_before = (h, g.none_before);
      holds = g.holds;
      name = g.name;
    }

only-first : (rows : List RefusalRow) (r : Refusal) → first_of rows ≡ Refused r → FirstRefusal rows r
unfolding first_of
only-first [] r e = let z : ◌≡◌ {A = ℕ} 0 1 = cc in absurd (omega arith)
only-first (x ∷ xs) r e = only-case x xs r x.when refl e (only-first xs r)

opened-refused : (s : List ℕ) (r : Refusal) → verdict_of s ≡ Refused r → opened_of s ≡ Err r
opened-refused s r e = sym (opened-as s (Refused r) (sym e))

pub refusing : Refusing
refusing =
    record {
      first-row = λ s r f. ap first_of f.split ∙ first_holds f.before f.this f.after f.none_before f.holds ∙ ap Refused f.name;
      only-first-row = λ s r e. only-first (refusal_rows s) r e;
      otherwise = λ s n. none-refuses (refusal_rows s) n;
      only-otherwise = λ s e. passed (refusal_rows s) e;
      told = opened-verdict;
      refusal-alone = opened-refused;
      no-card = λ s r e. ap card_in (opened-refused s r e);
      none-run = λ s r e. ap (λ (o : Result Opened Refusal). events_of (part_of s (events_in o))) (opened-refused s r e) ∙ events-none;
    }

pub refusal-table : RefusalTable
unfolding table.verdicts_found table.verdicts_meant first_of contents_wrong section_of some_below first_below sum_below fresh_bad fresh_answer fresh_outcome word_of refused accepted cut_short cut_within kind_unknown wrong_length some_event events_of events_within kind_of pick is_same
refusal-table = refl
