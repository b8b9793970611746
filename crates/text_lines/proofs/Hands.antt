-- What a step hands out is what the text says comes next, whatever follows the window: the lines still to come of the bytes in the
-- window and any that follow are the line that the step found and those still to come after it. By the cases of the step, each by a
-- law of lines. A step also gets on: it hands out a byte, or leaves at most 4,096.
use Prim.Native.Nat.{ℕ, suc, ◌+◌, ◌-◌, ◌≤◌, ◌<◌}
use mathlib.Core.Path.{◌≡◌, refl, sym, ap, ◌∙◌}
use mathlib.Core.List.{List, [], ◌∷◌, ◌++◌, append-nil}
use mathlib.Core.Bool.{Bool, true, false}
use native.Mathlib.Omega.{arith}
use lib.ListN.{length, take, drop, length-take, length-drop, drop_of_length-le}
use lib.Seq.{drop-drop, take_all, drop-length}
use Rattle.base_choice.specs.Choice.{pick}
use Rattle.text_words.specs.Words.{before, part}
use Rattle.text_words.proofs.WordLists.{before-le}
use Rattle.base_choice.proofs.Branches.{each, by-lt, by_le, lt!, nlt! }
use Rattle.text_lines.specs.Lines.{Line, TooLong, line_read, lines_of}
use Rattle.text_lines.specs.Window.{window_of, gives, found_line, none_left, unended, stop_from, line_from, step_from}
use Rattle.text_lines.specs.Cuts.{handed_out, Settled}
use Rattle.text_lines.specs.declared.Found.{Found}
use Rattle.text_lines.specs.declared.Found.TheVariants as found_as
use Rattle.text_lines.specs.declared.Step.{Step}
use Rattle.text_lines.proofs.LineLaws.{lines-last, last_some, lines-in, lines-over, lines_none, past-on, past-in}

-- the lines still to come of a text; where a line is passed over, those after its end
abbrev pub to_come : Bool → List ℕ → List Line
to_come false t = lines_of t
to_come true t = lines_of (drop (suc (before 10 t)) t)

-- a line lies inside the window
abbrev pub Inside : ℕ → Found → Type 0
Inside n (found_as.Line from to) = (from ≤ to) × (to ≤ n)
Inside n found_as.TooLong = Unit {0}
Inside n found_as.More = Unit {0}
Inside n found_as.End = Unit {0}

pub record Right (s : List ℕ) (at : ℕ) (skipping last : Bool) (r : Step) : Type 0 where
  pub hands : (f : List ℕ) → (last ≡ true → f ≡ []) → to_come skipping (drop at s ++ f) ≡ handed_out s r.found ++ to_come r.window.skipping (drop r.window.at s ++ f)
  pub inside : Inside (length s) r.found
  pub settled : Settled last r.found (drop r.window.at s)
  pub ends : r.window.end ≡ length s
  pub falls : length (drop r.window.at s) ≤ 4096 + (length (drop at s) - 4097)
  pub falls-last : last ≡ true → length (drop r.window.at s) ≤ length (drop at s) - 1

-- a line that was found
part_length : (s : List ℕ) (a e : ℕ) → a ≤ e → e ≤ length s → length (part s a e) ≡ e - a
part_length s a e h k = simp (length-take, length-drop) (omega arith)

handed-found : (s : List ℕ) (a e : ℕ) → a ≤ e → e ≤ length s → handed_out s (found_line a e) ≡ line_read (part s a e) ∷ []
unfolding line_read found_line
handed-found s a e h k =
    let n = part_length s a e h k in
    by-lt (λ (x : Found). handed_out s x ≡ line_read (part s a e) ∷ []) 4096 (e - a)
    (λ l. let j : 4096 < length (part s a e) = omega arith in ap (λ (x : Line). x ∷ []) (lt! _ j refl))
    (λ l. let j : length (part s a e) ≤ 4096 = omega arith in ap (λ (x : Line). x ∷ []) (nlt! _ j refl))

inside_found : (n a e : ℕ) → a ≤ e → e ≤ n → Inside n (found_line a e)
unfolding found_line
inside_found n a e h k = by-lt (Inside n) 4096 (e - a) (λ l. tt) (λ l. (h, k))

settled-found : (last : Bool) (a e : ℕ) (t : List ℕ) → Settled last (found_line a e) t
unfolding found_line
settled-found last a e t = by-lt (λ (x : Found). Settled last x t) 4096 (e - a) (λ l. tt) (λ l. tt)

none_before : (s : List ℕ) → before 10 (drop (length s) s) ≡ length (drop (length s) s)
unfolding before
none_before s = rw (drop-length s) refl

end-length : (s : List ℕ) → length (drop (length s) s) ≡ 0
end-length s = ap length (drop-length s)

-- nothing is left, and what was left does not count
idle-right : (s : List ℕ) (at : ℕ) (skipping last : Bool) → ((f : List ℕ) → to_come skipping (drop at s ++ f) ≡ to_come skipping f) → Right s at skipping last (none_left (length s) skipping last)
unfolding none_left
idle-right s at skipping last p =
    let z = end-length s in
    record {
      hands = λ f g.
          p f
          ∙ ap (λ (x : List ℕ). to_come skipping (x ++ f)) (sym (drop-length s))
          ∙ ap (λ (x : List Line). x ++ to_come skipping (drop (length s) s ++ f)) (each (λ (x : Found). [] ≡ handed_out s x) last (λ e. refl) (λ e. refl));
      inside = each (Inside (length s)) last (λ e. tt) (λ e. tt);
      settled = each (λ (x : Found). Settled last x (drop (length s) s)) last (λ e. (e, drop-length s)) (λ e. (e, (none_before s, omega arith)));
      ends = refl;
      falls = omega arith;
      falls-last = λ e. omega arith;
    }

module _ (s : List ℕ) (from : ℕ) (last : Bool) where
  -- what stands from `from` on holds no LF
  module _ (none : before 10 (drop from s) ≡ length (drop from s)) (h : from < length s) where
    last-right : last ≡ true → Right s from false last (gives (window_of (length s) (length s) false) (found_line from (length s)))
    last-right e =
        let z = end-length s in
        let n = length-drop from s in
        let k : from ≤ length s = omega arith in
        let m : length s ≤ length s = omega arith in
        let j : 0 < length (drop from s) = omega arith in
        let q : length (drop from s) ≤ length s - from = omega arith in
        let one : lines_of (drop from s) ≡ handed_out s (found_line from (length s)) =
        lines-last (drop from s) none
        ∙ last_some (drop from s) j
        ∙ ap (λ (x : List ℕ). line_read x ∷ []) (sym (take_all (length s - from) (drop from s) q))
        ∙ sym (handed-found s from (length s) k m)
        in
        let rest : lines_of (drop (length s) s ++ []) ≡ [] = ap (λ (x : List ℕ). lines_of (x ++ [])) (drop-length s) ∙ lines_none in
        record {
          hands = λ f g.
              ap (λ (x : List ℕ). lines_of (drop from s ++ x)) (g e)
              ∙ ap lines_of (append-nil (drop from s))
              ∙ one
              ∙ sym (append-nil (handed_out s (found_line from (length s))))
              ∙ ap (λ (x : List Line). handed_out s (found_line from (length s)) ++ x) (sym rest ∙ ap (λ (x : List ℕ). lines_of (drop (length s) s ++ x)) (sym (g e)));
          inside = inside_found (length s) from (length s) k m;
          settled = settled-found last from (length s) (drop (length s) s);
          ends = refl;
          falls = omega arith;
          falls-last = λ x. omega arith;
        }

    long-right : last ≡ false → 4096 < length s - from → Right s from false last (gives (window_of (length s) (length s) true) found_as.TooLong)
    long-right e k =
        let z = end-length s in
        let n = length-drop from s in
        let j : 4096 < length (drop from s) = omega arith in
        record {
          hands = λ f g. lines-over (drop from s) f none j ∙ ap (λ (x : List ℕ). TooLong ∷ to_come true (x ++ f)) (sym (drop-length s));
          inside = tt;
          settled = tt;
          ends = refl;
          falls = omega arith;
          falls-last = λ x. omega arith;
        }

    wait-right : last ≡ false → length s - from ≤ 4096 → Right s from false last (gives (window_of from (length s) false) found_as.More)
    wait-right e k =
        let n = length-drop from s in
        record {
          hands = λ f g. refl;
          inside = tt;
          settled = (e, (none, omega arith));
          ends = refl;
          falls = omega arith;
          falls-last = λ x. let z : ◌≡◌ {A = ℕ} 0 1 = cc in absurd (omega arith);
        }

  tail-right : before 10 (drop from s) ≡ length (drop from s) → Right s from false last (unended s from last)
  unfolding unended
  tail-right none =
      by_le (Right s from false last) (length s) from
      (λ h. idle-right s from false last (λ f. ap (λ (x : List ℕ). lines_of (x ++ f)) (drop_of_length-le s h)))
      (λ h.
      each (Right s from false last) last
      (last-right none h)
      (λ e. by-lt (Right s from false last) 4096 (length s - from) (long-right none h e) (wait-right none h e)))

  cut_right : stop_from s from < length s → Right s from false last (gives (window_of (stop_from s from + 1) (length s) false) (found_line from (stop_from s from)))
  unfolding stop_from
  cut_right h =
      let n : ℕ = before 10 (drop from s) in
      let l = length-drop from s in
      let d = length-drop (from + n + 1) s in
      let j : n < length (drop from s) = omega arith in
      let k : from ≤ from + n = omega arith in
      let m : from + n ≤ length s = omega arith in
      let a : n ≡ from + n - from = omega arith in
      let b : from + suc n ≡ from + n + 1 = omega arith in
      let one : line_read (take n (drop from s)) ∷ [] ≡ handed_out s (found_line from (from + n)) =
      ap (λ (i : ℕ). line_read (take i (drop from s)) ∷ []) a ∙ sym (handed-found s from (from + n) k m)
      in
      record {
        hands = λ f g.
            lines-in (drop from s) f j
            ∙ ap (λ (x : List ℕ). line_read (take n (drop from s)) ∷ lines_of (x ++ f)) (drop-drop (suc n) from s ∙ ap (λ (i : ℕ). drop i s) b)
            ∙ ap (λ (x : List Line). x ++ lines_of (drop (from + n + 1) s ++ f)) one;
        inside = inside_found (length s) from (from + n) k m;
        settled = settled-found last from (from + n) (drop (from + n + 1) s);
        ends = refl;
        falls = omega arith;
        falls-last = λ x. omega arith;
      }

  none_from : length s ≤ stop_from s from → before 10 (drop from s) ≡ length (drop from s)
  unfolding stop_from
  none_from h = let l = length-drop from s in let k = before-le 10 (drop from s) in omega arith

  line-right : Right s from false last (line_from s from last)
  unfolding line_from
  line-right = by-lt (Right s from false last) (stop_from s from) (length s) cut_right (λ h. tail-right (none_from h))

-- a line that is passed over ends in the window: what is right from its end on is right
past-right : (s : List ℕ) (at : ℕ) (last : Bool) {r : Step} → stop_from s at < length s → Right s (stop_from s at + 1) false last r → Right s at true last r
unfolding stop_from
past-right s at last h p =
    let n : ℕ = before 10 (drop at s) in
    let l = length-drop at s in
    let d = length-drop (at + n + 1) s in
    let j : n < length (drop at s) = omega arith in
    let b : at + suc n ≡ at + n + 1 = omega arith in
    let x = p.falls in
    record {
      hands = λ f g. past-in (drop at s) f j ∙ ap (λ (y : List ℕ). lines_of (y ++ f)) (drop-drop (suc n) at s ∙ ap (λ (i : ℕ). drop i s) b) ∙ p.hands f g;
      inside = p.inside;
      settled = p.settled;
      ends = p.ends;
      falls = omega arith;
      falls-last = λ e. let y = p.falls-last e in omega arith;
    }

pub step_right : (s : List ℕ) (at : ℕ) (skipping last : Bool) → Right s at skipping last (step_from s at skipping last)
unfolding step_from pick
step_right s at false last = line-right s at last
step_right s at true last =
    by_le (Right s at true last) (length s) (stop_from s at)
    (λ h. idle-right s at true last (λ f. past-on (drop at s) f (none_from s at last h)))
    (λ h. past-right s at last h (line-right s (stop_from s at + 1) last))
