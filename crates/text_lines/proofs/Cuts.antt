-- The lines of an input are the same however it was cut into reads, and they are those that its bytes say (`any-cut`). A step's law
-- (`Hands`) is carried to the window, then over all steps before a read, then over the reads: what is still to come of the window
-- and of all that follows stays what is not handed out. Each read fits, since the steps before it leave at most 4,096 bytes.
-- The same law by cases over what a session does gives `any-session`.
use Prim.Native.Nat.{ℕ, zero, suc, ◌+◌, ◌-◌, ◌≤◌}
use mathlib.Core.Path.{◌≡◌, refl, sym, ap, subst, ◌∙◌}
use mathlib.Core.List.{List, [], ◌∷◌, ◌++◌, append-nil, append_assoc, flatten}
use mathlib.Core.Bool.{Bool, true, false}
use native.Mathlib.Omega.{arith}
use lib.ListN.{length, take, drop, length-append, length-take, length-drop}
use lib.Seq.{take-take, take-append_seam}
use Rattle.std.proofs.lemmas.List.{take_min}
use Rattle.text_words.specs.Words.{part}
use Rattle.base_bytes.specs.Put.{put, after}
use Rattle.base_bytes.proofs.PutLaws.{put-put, put_front, length-put, after-fits}
use Rattle.text_lines.specs.Lines.{Line, Whole}
use Rattle.text_lines.specs.Window.{next_line, held_of, fresh_window}
use Rattle.text_lines.specs.Cuts.{handed_out, drained, drained_to, read_buffer, read_window, steps, lines_by, ReadsAtMost, one, AnyCut, AnswersAtOnce, Settled, Session, over, step, read, AnySession}
use Rattle.text_lines.specs.declared.Window.{Window}
use Rattle.text_lines.specs.declared.Step.{Step}
use Rattle.text_lines.specs.declared.Found.{Found}
use Rattle.text_lines.specs.declared.Found.TheVariants as found_as
use Rattle.text_lines.proofs.WindowLaws.{drop-part}
use Rattle.text_lines.proofs.LineLaws.{lines_none}
use Rattle.text_lines.proofs.Hands.{to_come, Inside, step_right}

-- the lines still to come of a window and what follows it
abbrev pub ahead : Window → List ℕ → List ℕ → List Line
ahead w buf f = to_come w.skipping (held_of w buf ++ f)

-- a line that lies in the first n bytes is the same in all of them
part-take : (l : List ℕ) (n a e : ℕ) → e ≤ length (take n l) → part (take n l) a e ≡ part l a e
part-take l n a e h =
    let m = length-take n l in
    let k : e ≤ n = omega arith in
    sym (drop-part a e (take n l)) ∙ ap (drop a) (take-take e n l k) ∙ drop-part a e l

handed-take : (l : List ℕ) (n : ℕ) (x : Found) → Inside (length (take n l)) x → handed_out (take n l) x ≡ handed_out l x
handed-take l n (found_as.Line a e) h = ap (λ (x : List ℕ). Whole x ∷ []) (part-take l n a e h.1)
handed-take l n found_as.TooLong h = refl
handed-take l n found_as.More h = refl
handed-take l n found_as.End h = refl

inside-more : (n m : ℕ) (x : Found) → n ≤ m → Inside n x → Inside m x
inside-more n m (found_as.Line a e) h i = (i.0, omega arith)
inside-more n m found_as.TooLong h i = tt
inside-more n m found_as.More h i = tt
inside-more n m found_as.End h i = tt

-- one step of a window
module _ (w : Window) (buf : List ℕ) (last : Bool) where
  step-held : held_of (next_line w buf last).window buf ≡ drop (next_line w buf last).window.at (take w.end buf)
  step-held =
      let r = step_right (take w.end buf) w.at w.skipping last in
      ap (λ (n : ℕ). drop (next_line w buf last).window.at (take n buf)) (r.ends ∙ length-take w.end buf)
      ∙ ap (drop (next_line w buf last).window.at) (take_min w.end buf)

  pub next-hands : (f : List ℕ) → (last ≡ true → f ≡ []) → ahead w buf f ≡ handed_out buf (next_line w buf last).found ++ ahead (next_line w buf last).window buf f
  next-hands f g =
      let r = step_right (take w.end buf) w.at w.skipping last in
      let n : Window = (next_line w buf last).window in
      r.hands f g
      ∙ ap (λ (x : List Line). x ++ to_come n.skipping (drop n.at (take w.end buf) ++ f)) (handed-take buf w.end (next_line w buf last).found r.inside)
      ∙ ap (λ (x : List ℕ). handed_out buf (next_line w buf last).found ++ to_come n.skipping (x ++ f)) (sym step-held)

  next-falls : length (held_of (next_line w buf last).window buf) ≤ 4096 + (length (held_of w buf) - 4097)
  next-falls = rw step-held (step_right (take w.end buf) w.at w.skipping last).falls

  next-falls-last : last ≡ true → length (held_of (next_line w buf last).window buf) ≤ length (held_of w buf) - 1
  next-falls-last e = rw step-held ((step_right (take w.end buf) w.at w.skipping last).falls-last e)

-- any number of steps
pub drained-hands : (n : ℕ) (w : Window) (buf : List ℕ) (last : Bool) (f : List ℕ) → (last ≡ true → f ≡ []) → ahead w buf f ≡ drained n last w buf ++ ahead (drained_to n last w buf) buf f
unfolding drained drained_to
drained-hands zero w buf last f g = refl
drained-hands (suc n) w buf last f g =
    let v : Window = (next_line w buf last).window in
    let h : List Line = handed_out buf (next_line w buf last).found in
    next-hands w buf last f g
    ∙ ap (λ (x : List Line). h ++ x) (drained-hands n v buf last f g)
    ∙ sym (append_assoc h (drained n last v buf) (ahead (drained_to n last v buf) buf f))

-- as many as there are bytes: what is left before a read is short, and at the end nothing is left
pub drained-short : (n : ℕ) (w : Window) (buf : List ℕ) → length (held_of w buf) ≤ n + 4096 → length (held_of (drained_to n false w buf) buf) ≤ 4096
unfolding drained_to
drained-short zero w buf h = omega arith
drained-short (suc n) w buf h = let k = next-falls w buf false in drained-short n (next_line w buf false).window buf (omega arith)

pub drained-all : (n : ℕ) (w : Window) (buf : List ℕ) → length (held_of w buf) ≤ n → length (held_of (drained_to n true w buf) buf) ≤ 0
unfolding drained_to
drained-all zero w buf h = h
drained-all (suc n) w buf h = let k = next-falls-last w buf true refl in drained-all n (next_line w buf true).window buf (omega arith)

pub held-le : (w : Window) (buf : List ℕ) → length (held_of w buf) ≤ length buf
held-le w buf = simp (length-drop, length-take) (omega arith)

-- a read goes behind what is kept
pub read_held : (w : Window) (buf bytes : List ℕ) → length (held_of w buf) + length bytes ≤ length buf → held_of (read_window w buf bytes) (read_buffer w buf bytes) ≡ held_of w buf ++ bytes
read_held w buf bytes h =
    let t : List ℕ = held_of w buf in
    let n = length-append t bytes in
    let z : length t ≡ after (length buf) 0 (length t) = omega (arith, after-fits (length buf) 0 (length t) (omega arith)) in
    let e : after (length buf) (length t) (length bytes) ≡ length (t ++ bytes) = omega (arith, after-fits (length buf) (length t) (length bytes) h) in
    ap (λ (k : ℕ). take k (read_buffer w buf bytes)) e
    ∙ ap (take (length (t ++ bytes))) (put-put buf 0 t (length t) bytes z ∙ put_front buf (t ++ bytes) (omega arith))
    ∙ take-append_seam (t ++ bytes) (drop (length (t ++ bytes)) buf)

read-size : (w : Window) (buf bytes : List ℕ) → length (read_buffer w buf bytes) ≡ length buf
read-size w buf bytes = length-put (put buf 0 (held_of w buf)) (length (held_of w buf)) bytes ∙ length-put buf 0 (held_of w buf)

none_left : (skipping : Bool) (t : List ℕ) → length t ≤ 0 → to_come skipping (t ++ []) ≡ []
none_left false [] h = lines_none
none_left true [] h = lines_none
none_left skipping (c ∷ cs) h = absurd (omega arith)

cuts : (n : ℕ) (w : Window) (buf : List ℕ) (reads : List (List ℕ)) → ReadsAtMost n reads → n + 4096 ≤ length buf → lines_by w buf reads ≡ ahead w buf (flatten reads)
unfolding lines_by flatten
cuts n w buf [] a h =
    let v : Window = drained_to (steps buf) true w buf in
    let k = held-le w buf in
    sym (append-nil (drained (steps buf) true w buf))
    ∙ ap (λ (x : List Line). drained (steps buf) true w buf ++ x) (sym (none_left v.skipping (held_of v buf) (drained-all (steps buf) w buf (omega arith))))
    ∙ sym (drained-hands (steps buf) w buf true [] (λ e. refl))
cuts n w buf (bytes ∷ reads) (one b a) h =
    let v : Window = drained_to (steps buf) false w buf in
    let k = held-le w buf in
    let s = drained-short (steps buf) w buf (omega arith) in
    let z = read-size v buf bytes in
    ap (λ (x : List Line). drained (steps buf) false w buf ++ x)
    (cuts n (read_window v buf bytes) (read_buffer v buf bytes) reads a (omega arith)
    ∙ ap (λ (x : List ℕ). to_come v.skipping (x ++ flatten reads)) (read_held v buf bytes (omega arith))
    ∙ ap (to_come v.skipping) (append_assoc (held_of v buf) bytes (flatten reads)))
    ∙ sym (drained-hands (steps buf) w buf false (bytes ++ flatten reads) (λ e. let q : ◌≡◌ {A = ℕ} 0 1 = cc in absurd (omega arith)))

pub any-cut : AnyCut
any-cut n buf reads a h = cuts n fresh_window buf reads a h

pub answers-at-once : AnswersAtOnce
answers-at-once w buf last = rw (step-held w buf last) (step_right (take w.end buf) w.at w.skipping last).settled

-- a session hands out what is ahead of its window
settled-end : (last : Bool) (x : Found) (t : List ℕ) → x ≡ found_as.End → Settled last x t → t ≡ []
settled-end last (found_as.Line a e) t h s = let q : ◌≡◌ {A = ℕ} 0 1 = cc in absurd (omega arith)
settled-end last found_as.TooLong t h s = let q : ◌≡◌ {A = ℕ} 0 1 = cc in absurd (omega arith)
settled-end last found_as.More t h s = let q : ◌≡◌ {A = ℕ} 0 1 = cc in absurd (omega arith)
settled-end last found_as.End t h s = s.1

sessions : {w : Window} {buf input : List ℕ} {ls : List Line} → Session w buf input ls → ls ≡ ahead w buf input
sessions (over {w} {buf} h) =
    let v : Window = (next_line w buf true).window in
    let t : held_of v buf ≡ [] = settled-end true (next_line w buf true).found (held_of v buf) h (answers-at-once w buf true) in
    let z : length (held_of v buf) ≤ 0 = rw t (omega arith) in
    sym
    (next-hands w buf true [] (λ e. refl)
    ∙ ap (λ (x : Found). handed_out buf x ++ ahead v buf []) h
    ∙ none_left v.skipping (held_of v buf) z)
sessions (step {w} {buf} {input} last g p) = ap (λ (x : List Line). handed_out buf (next_line w buf last).found ++ x) (sessions p) ∙ sym (next-hands w buf last input g)
sessions (read {w} {v} {buf} {after} {input} bytes h k p) =
    sessions p
    ∙ ap (λ (x : List ℕ). to_come v.skipping (x ++ input)) h
    ∙ ap (λ (x : Bool). to_come x (held_of w buf ++ bytes ++ input)) k
    ∙ ap (to_come w.skipping) (append_assoc (held_of w buf) bytes input)

pub any-session : AnySession
any-session buf input lines p = sessions p

-- a line lies inside the buffer
pub next-inside : (w : Window) (buf : List ℕ) (last : Bool) → Inside (length buf) (next_line w buf last).found
next-inside w buf last = (let l = length-take w.end buf in inside-more (length (take w.end buf)) (length buf) (next_line w buf last).found (omega arith)) (step_right (take w.end buf) w.at w.skipping last).inside

pub line-inside : (w : Window) (buf : List ℕ) (last : Bool) {r : Step} {a e : ℕ} → r ≡ next_line w buf last → r.found ≡ found_as.Line a e → (a ≤ e) × (e ≤ length buf)
line-inside w buf last {r} {a} {e} p q = subst (Inside (length buf)) (ap (λ (x : Step). x.found) (sym p) ∙ q) (next-inside w buf last)
