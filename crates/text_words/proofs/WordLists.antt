-- The words of a line and the places that `word_at` tells are the same words: a text is its first word and the words after it. By
-- induction over the text, first over the spaces before a word (`words-skip`), then over the word (`words_open`).
use Prim.Native.Nat.{ℕ, suc, ◌+◌, ◌-◌, ◌≤◌, ◌<◌}
use mathlib.Core.Path.{◌≡◌, refl, sym, ap, ◌∙◌}
use mathlib.Core.List.{List, [], ◌∷◌, ◌++◌, append-nil, append_assoc}
use native.Mathlib.Omega.{arith}
use lib.ListN.{length, take, drop, length-drop, drop_of_length-le}
use lib.Seq.{drop-drop, length-take-le}
use Rattle.text_words.specs.Words.{before, leading, part, span, word_closed, words_on, words_of, word_at, word_from, field_at, on_word}
use Rattle.text_words.specs.declared.words.Span.{Span}
use Rattle.std.specs.Prelude.{Option, None}
use Rattle.base_choice.proofs.Branches.{on-eq, by-eq, by_le, by-lt, eq!, ne! }

module _ (b : ℕ) where
  pub before-found : (c : ℕ) (cs : List ℕ) → c ≡ b → before b (c ∷ cs) ≡ 0
  unfolding before
  before-found c cs e = sym (eq! _ e refl)

  pub before-other : (c : ℕ) (cs : List ℕ) → (c ≡ b → ⊥) → before b (c ∷ cs) ≡ suc (before b cs)
  unfolding before
  before-other c cs e = sym (ne! _ e refl)

  pub before-le : (t : List ℕ) → before b t ≤ length t
  unfolding before
  before-le [] = omega arith
  before-le (c ∷ cs) =
      let h = before-le cs in
      by-eq (λ (n : ℕ). n ≤ suc (length cs)) c b (λ e. omega arith) (λ e. omega arith)

  leading-found : (c : ℕ) (cs : List ℕ) → c ≡ b → leading b (c ∷ cs) ≡ suc (leading b cs)
  unfolding leading
  leading-found c cs e = sym (eq! _ e refl)

  leading-other : (c : ℕ) (cs : List ℕ) → (c ≡ b → ⊥) → leading b (c ∷ cs) ≡ 0
  unfolding leading
  leading-other c cs e = sym (ne! _ e refl)

  -- what stands past all b does not begin with b
  leading-past : (t : List ℕ) → leading b (drop (leading b t) t) ≡ 0
  unfolding leading
  leading-past [] = refl
  leading-past (c ∷ cs) =
      on-eq c b
      (λ e. rw (leading-found c cs e) (leading-past cs))
      (λ e. rw (leading-other c cs e) (leading-other c cs e))

  before-some : (t : List ℕ) → leading b t ≡ 0 → 0 < length t → 0 < before b t
  before-some [] h k = absurd (omega arith)
  before-some (c ∷ cs) h k =
      on-eq c b
      (λ e. let m = leading-found c cs e in absurd (omega arith))
      (λ e. let m = before-other c cs e in omega arith)

words-skip : (t : List ℕ) → words_of (drop (leading 32 t) t) ≡ words_of t
unfolding words_of words_on leading
words-skip [] = refl
words-skip (c ∷ cs) =
    on-eq c 32
    (λ e. rw (leading-found 32 c cs e) (words-skip cs ∙ eq! _ e refl))
    (λ e. rw (leading-other 32 c cs e) refl)

words-space : (word : List ℕ) (c : ℕ) (cs : List ℕ) → c ≡ 32 → words_on word (c ∷ cs) ≡ word_closed word (words_of cs)
unfolding words_of words_on
words-space word c cs e = sym (eq! _ e refl)

words-letter : (word : List ℕ) (c : ℕ) (cs : List ℕ) → (c ≡ 32 → ⊥) → words_on word (c ∷ cs) ≡ words_on (word ++ (c ∷ [])) cs
unfolding words_on
words-letter word c cs e = sym (ne! _ e refl)

words-end : (word : List ℕ) → words_on word [] ≡ word_closed (word ++ []) (words_on [] [])
unfolding words_on
words-end word = ap (λ (w : List ℕ). word_closed w []) (sym (append-nil word))

words_open : (word t : List ℕ) → words_on word t ≡ word_closed (word ++ take (before 32 t) t) (words_of (drop (before 32 t) t))
unfolding words_of before
words_open word [] = words-end word
words_open word (c ∷ cs) =
    on-eq c 32
    (λ e. rw (before-found 32 c cs e, append-nil word) (words-space word c cs e ∙ ap (word_closed word) (sym (words-space [] c cs e))))
    (λ e.
    rw (before-other 32 c cs e, ← append_assoc word (c ∷ []) (take (before 32 cs) cs))
    (words-letter word c cs e ∙ words_open (word ++ (c ∷ [])) cs))

-- a text that begins with a word
closed_some : (w : List ℕ) (ws : List (List ℕ)) → 0 < length w → word_closed w ws ≡ w ∷ ws
closed_some [] ws h = absurd (omega arith)
closed_some (c ∷ cs) ws h = refl

words-cut : (t : List ℕ) → leading 32 t ≡ 0 → 0 < length t → words_of t ≡ take (before 32 t) t ∷ words_of (drop (before 32 t) t)
unfolding words_of
words-cut t h k =
    let m = before-some 32 t h k in
    let n = before-le 32 t in
    let l = length-take-le (before 32 t) t n in
    words_open [] t ∙ closed_some (take (before 32 t) t) (words_of (drop (before 32 t) t)) (omega arith)

pub words-none : words_of [] ≡ []
unfolding words_of words_on
words-none = refl

-- the word from a place on, and the words after it
pub words-at : (s : List ℕ) (at : ℕ) → words_of (drop at s) ≡ on_word (word_at s at) [] (λ a e. part s a e ∷ words_of (drop e s))
unfolding word_at word_from
words-at s at =
    let a : ℕ = at + leading 32 (drop at s) in
    let n : ℕ = before 32 (drop a s) in
    let d = length-drop a s in
    let d₂ : drop (leading 32 (drop at s)) (drop at s) ≡ drop a s = drop-drop (leading 32 (drop at s)) at s in
    let skip : words_of (drop at s) ≡ words_of (drop a s) = sym (words-skip (drop at s)) ∙ ap words_of d₂ in
    let z : leading 32 (drop a s) ≡ 0 = ap (leading 32) (sym d₂) ∙ leading-past 32 (drop at s) in
    let e : n ≡ a + n - a = omega arith in
    by_le (λ (w : Option Span). words_of (drop at s) ≡ on_word w [] (λ a e. part s a e ∷ words_of (drop e s))) (length s) a
    (λ h. skip ∙ ap words_of (drop_of_length-le s h) ∙ words-none)
    (λ h.
    skip
    ∙ words-cut (drop a s) z (omega arith)
    ∙ ap (λ (l : List ℕ). take n (drop a s) ∷ words_of l) (drop-drop n a s)
    ∙ ap (λ (k : ℕ). take k (drop a s) ∷ words_of (drop (a + n) s)) e)

pub word_next : (s : List ℕ) (at a e : ℕ) → span a e ≡ word_at s at → words_of (drop at s) ≡ part s a e ∷ words_of (drop e s)
word_next s at a e h = words-at s at ∙ ap (λ (w : Option Span). on_word w [] (λ a e. part s a e ∷ words_of (drop e s))) (sym h)

pub word_none : (s : List ℕ) (at : ℕ) → None ≡ word_at s at → words_of (drop at s) ≡ []
word_none s at h = words-at s at ∙ ap (λ (w : Option Span). on_word w [] (λ a e. part s a e ∷ words_of (drop e s))) (sym h)

-- a word lies inside the line and is not empty; a field lies inside the word
pub word-inside : (s : List ℕ) (at a e : ℕ) → span a e ≡ word_at s at → (at ≤ a) × ((a < e) × (e ≤ length s))
unfolding word_at word_from
word-inside s at a e h =
    let b : ℕ = at + leading 32 (drop at s) in
    let n : ℕ = before 32 (drop b s) in
    let d = length-drop b s in
    let d₂ : drop (leading 32 (drop at s)) (drop at s) ≡ drop b s = drop-drop (leading 32 (drop at s)) at s in
    let z : leading 32 (drop b s) ≡ 0 = ap (leading 32) (sym d₂) ∙ leading-past 32 (drop at s) in
    by_le (λ (w : Option Span). span a e ≡ w → (at ≤ a) × ((a < e) × (e ≤ length s))) (length s) b
    (λ k q. let o : ◌≡◌ {A = ℕ} 0 1 = cc in absurd (omega arith))
    (λ k q.
    let i : a ≡ b = ap (λ (w : Option Span). on_word w 0 (λ a e. a)) q in
    let j : e ≡ b + n = ap (λ (w : Option Span). on_word w 0 (λ a e. e)) q in
    let p = before-some 32 (drop b s) z (omega arith) in
    let r = before-le 32 (drop b s) in
    (omega arith, (omega arith, omega arith)))
    h

pub field-inside : (by : ℕ) (s : List ℕ) (at a e : ℕ) → span a e ≡ field_at by s at → (at ≡ a) × ((a ≤ e) × (e ≤ length s))
unfolding field_at
field-inside by s at a e h =
    let d = length-drop at s in
    let r = before-le by (drop at s) in
    by-lt (λ (w : Option Span). span a e ≡ w → (at ≡ a) × ((a ≤ e) × (e ≤ length s))) (length s) at
    (λ k q. let o : ◌≡◌ {A = ℕ} 0 1 = cc in absurd (omega arith))
    (λ k q.
    let i : a ≡ at = ap (λ (w : Option Span). on_word w 0 (λ a e. a)) q in
    let j : e ≡ at + before by (drop at s) = ap (λ (w : Option Span). on_word w 0 (λ a e. e)) q in
    (sym i, (omega arith, omega arith)))
    h
