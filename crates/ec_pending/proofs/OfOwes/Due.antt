-- What is due: distinct numbers, and the pairs that a call meets.
use Rattle.std.proofs.Common.{◌≡◌, refl, sym, ap, ◌∙◌, ◌<◌, ◌+◌, ℕ, Bool, true, false, not, ◌==◌, ◌||◌, cond, List, [], ◌∷◌, ◌++◌, length, take, get_or, append-nil}
use Rattle.std.specs.List.{filter}
use Rattle.std.proofs.lemmas.Bool.{cond-true, cond-false, eqb-true, true≢false}
use Rattle.std.proofs.lemmas.List.{take_more}
use Rattle.std.proofs.lemmas.List.Elements.{filter-append}
use Rattle.ec_volume.specs.Update.{member}
use Rattle.ec_plain.specs.Plain.{is_sync}
use Rattle.ec_plain.specs.declared.call.Call.{Call}
use Rattle.ec_plain.specs.declared.call.Outcome.{Outcome}
use Rattle.ec_history.specs.History.{Owed, meets, distinct_numbers}
use Rattle.ec_pending.specs.OfOwes.Owes.{on_one, on_none}

member-kept : (f : ℕ → Bool) (n : ℕ) (xs : List ℕ) → f n ≡ true → member n (filter f xs) ≡ member n xs
member-kept f n [] e = refl
member-kept f n (x ∷ xs) e = go (f x) (n == x) refl refl (member-kept f n xs e)
  where
    go : (a b : Bool) → f x ≡ a → (n == x) ≡ b → member n (filter f xs) ≡ member n xs → member n (cond a (x ∷ filter f xs) (filter f xs)) ≡ (b || member n xs)
    go true b d k r = ap (λ z. z || member n (filter f xs)) k ∙ ap (λ z. b || z) r
    go false true d k r = absurd (true≢false (sym e ∙ ap f (eqb-true n x k) ∙ d))
    go false false d k r = r

abbrev pub more_number : ℕ → List ℕ → List ℕ
more_number n ns = cond (member n ns) ns (ns ++ n ∷ [])

filter-more : (f : ℕ → Bool) (n : ℕ) (xs : List ℕ) → f n ≡ true → filter f (more_number n xs) ≡ more_number n (filter f xs)
filter-more f n xs e = go (member n xs) refl
  where
    go : (a : Bool) → member n xs ≡ a → filter f (cond a xs (xs ++ n ∷ [])) ≡ more_number n (filter f xs)
    go true d = sym (cond-true (member n (filter f xs)) (filter f xs) (filter f xs ++ n ∷ []) (member-kept f n xs e ∙ d))
    go false d = filter-append f xs (n ∷ []) ∙ ap (λ z. filter f xs ++ cond z (n ∷ []) []) e ∙ sym (cond-false (member n (filter f xs)) (filter f xs) (filter f xs ++ n ∷ []) (member-kept f n xs e ∙ d))

filter-less : (f : ℕ → Bool) (n : ℕ) (xs : List ℕ) → f n ≡ false → filter f (more_number n xs) ≡ filter f xs
filter-less f n xs e = go (member n xs)
  where
    go : (a : Bool) → filter f (cond a xs (xs ++ n ∷ [])) ≡ filter f xs
    go true = refl
    go false = filter-append f xs (n ∷ []) ∙ ap (λ z. filter f xs ++ cond z (n ∷ []) []) e ∙ append-nil _

pub distinct-more : (qs : Owed) (q : ℕ × ℕ) → distinct_numbers (qs ++ q ∷ []) ≡ more_number q.0 (distinct_numbers qs)
distinct-more [] q = refl
distinct-more (x ∷ qs) q = ap (λ l. x.0 ∷ filter (λ n. not (n == x.0)) l) (distinct-more qs q) ∙ go (q.0 == x.0) refl
  where
    f : ℕ → Bool
    f = λ n. not (n == x.0)

    rest : List ℕ
    rest = distinct_numbers qs

    out : (a : Bool) → x.0 ∷ cond a (filter f rest) (filter f rest ++ q.0 ∷ []) ≡ cond a (x.0 ∷ filter f rest) (x.0 ∷ (filter f rest ++ q.0 ∷ []))
    out true = refl
    out false = refl

    go : (a : Bool) → (q.0 == x.0) ≡ a → x.0 ∷ filter (λ n. not (n == x.0)) (more_number q.0 (distinct_numbers qs)) ≡ cond (a || member q.0 (filter (λ n. not (n == x.0)) (distinct_numbers qs))) (x.0 ∷ filter (λ n. not (n == x.0)) (distinct_numbers qs)) ((x.0 ∷ filter (λ n. not (n == x.0)) (distinct_numbers qs)) ++ q.0 ∷ [])
    go true e = ap (λ l. x.0 ∷ l) (filter-less f q.0 rest (ap not e))
    go false e = ap (λ l. x.0 ∷ l) (filter-more f q.0 rest (ap not e)) ∙ out (member q.0 (filter f rest))

pub numbers-more : (qs : Owed) (i : ℕ) (q : ℕ × ℕ) (old new : List ℕ) → i < length qs → q ≡ get_or qs i q → old ≡ distinct_numbers (take i qs) → new ≡ more_number q.0 old → new ≡ distinct_numbers (take (i + 1) qs)
numbers-more qs i q old new l is h e = e ∙ ap (more_number q.0) h ∙ sym (ap distinct_numbers (take_more qs i q l ∙ ap (λ z. take i qs ++ z ∷ []) (sym is)) ∙ distinct-more (take i qs) q)

all-pass : (qs : Owed) → qs ≡ filter (λ q. true) qs
all-pass [] = refl
all-pass (q ∷ qs) = ap (λ l. q ∷ l) (all-pass qs)

none-pass : (qs : Owed) → [] ≡ filter (λ q. false) qs
none-pass [] = refl
none-pass (q ∷ qs) = none-pass qs

module _ (out : Outcome) (cl : Call) (qs : Owed) where
  pub sync-meets : is_sync cl ≡ true → qs ≡ filter (meets out cl) qs
  sync-meets e = all-pass qs ∙ sym (ap (λ b. filter (λ q. b || member q.1 out.touched) qs) e)

  pub other-meets : is_sync cl ≡ false → on_one out.touched qs ≡ filter (meets out cl) qs
  other-meets e = sym (ap (λ b. filter (λ q. b || member q.1 out.touched) qs) e)

  pub sync-reports : is_sync cl ≡ true → [] ≡ filter (λ q. not (meets out cl q)) qs
  sync-reports e = none-pass qs ∙ sym (ap (λ b. filter (λ q. not (b || member q.1 out.touched)) qs) e)

  pub other-reports : is_sync cl ≡ false → on_none out.touched qs ≡ filter (λ q. not (meets out cl q)) qs
  other-reports e = sym (ap (λ b. filter (λ q. not (b || member q.1 out.touched)) qs) e)
