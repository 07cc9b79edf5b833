-- A pick by the first operations of a closure.
use Rattle.std.proofs.Common.{◌≡◌, refl, sym, ap, subst, ◌∙◌, ℕ, T, Bool, true, false, cond, List, [], ◌∷◌, take, drop, length, get_or, arith, Option, None, Some}
use Rattle.std.specs.Prelude.{◌==◌, ◌||◌, ◌-◌, ◌≤◌, filter}
use Rattle.std.specs.Cmp.{unsigned_ties}
use Rattle.std.specs.List.{list_any}
use Rattle.std.specs.Ordering.{nat_cmp, is_lt}
use Rattle.std.specs.FinMap.{is_sorted}
use Rattle.std.specs.FinMap.Entries.{below_all}
use Rattle.std.proofs.lemmas.Bool.Decides.{nat_tests}
use Rattle.std.proofs.lemmas.List.{take_all}
use Rattle.ec_base.specs.SortedLaws.{first, second}
use Rattle.ec_base.specs.Tables.{Table, at, keys, first as first_of}
use Rattle.ec_volume.specs.Update.{member}
use Rattle.ec_volume.specs.declared.update.Update.{Update}
use Rattle.ec_order.specs.Order.{Issued}
use Rattle.ec_sessions.specs.Limits.{max_batch_ops}
use Rattle.ec_log.specs.OfChains.Front.{IsFront}
use Rattle.ec_log.specs.Choice.{numbers_asked}
use Rattle.ec_log.specs.Chosen.{ask_of, closure_in, is_met, IsFrontOf, chosen, choice, unless_behind, new_batch, full_from, batch_number as number_of}
use Rattle.ec_log.specs.Log.{has_one_of, is_asked, pick}
use Rattle.ec_log.specs.declared.state.Asked.{Asked}
use Rattle.ec_log.specs.declared.state.Asked.TheVariants.{Object, Op, All}
use Rattle.ec_log.specs.declared.state.LogState.{LogState}
use Rattle.ec_log.specs.declared.state.Pick.{Pick}
use Rattle.ec_log.specs.declared.state.Pick.TheVariants.{Batch}
use Rattle.ec_log.proofs.Choices.{choice_pick}

-- What is asked for is asked for of the held operations.
pub front-asked : (a : Asked) (xs : Issued) (ops : List ℕ) → IsFront (ask_of a) xs max_batch_ops ops → IsFrontOf a xs ops
front-asked (Object x) xs ops f = record { first = f.first; members = f.members }
front-asked (Op n) xs ops f = record { first = f.first; members = f.members }
front-asked All xs ops f = record { first = f.first; members = f.members }

-- An operation is asked for where its update is found and asked for.

abbrev pub asked-at : Asked → ℕ → Option Update → Bool
asked-at a n None = false
asked-at a n (Some u) = is_asked a (n, u)

absent : (a : Asked) (n : ℕ) (xs : Issued) → T (below_all nat_cmp n xs) → member n (numbers_asked a xs) ≡ false
absent a n [] b = refl
absent a n (x ∷ xs) b = go (is_asked a x) (lower (first _ _ b)) (absent a n xs (second _ _ b))
  where
    lower : T (is_lt (nat_cmp n x.0)) → (n == x.0) ≡ false
    lower t = grind (arith, nat_tests, t)

    go : (t : Bool) → (n == x.0) ≡ false → member n (numbers_asked a xs) ≡ false → member n (keys (cond t (x ∷ filter (is_asked a) xs) (filter (is_asked a) xs))) ≡ false
    go true e r = ap (λ t. t || member n (numbers_asked a xs)) e ∙ r
    go false e r = r

pub asked-found : (a : Asked) (n : ℕ) (xs : Issued) → T (is_sorted nat_cmp xs) → asked-at a n (at n xs) ≡ member n (numbers_asked a xs)
asked-found a n [] s = refl
asked-found a n (x ∷ xs) s =
    ap (λ b. asked-at a n (cond b (Some x.1) (at n xs))) (sym (unsigned_ties n x.0)) ∙ go (n == x.0) refl (is_asked a x) refl (asked-found a n xs (second _ _ s))
  where
    is-same : (n == x.0) ≡ true → n ≡ x.0
    is-same e = grind (arith, nat_tests, e)

    go : (b : Bool) → (n == x.0) ≡ b → (t : Bool) → is_asked a x ≡ t → asked-at a n (at n xs) ≡ member n (numbers_asked a xs)
        → asked-at a n (cond b (Some x.1) (at n xs)) ≡ member n (keys (cond t (x ∷ filter (is_asked a) xs) (filter (is_asked a) xs)))
    go true e true i r = ap (λ m. is_asked a (m, x.1)) (is-same e) ∙ i ∙ sym (ap (λ t. t || member n (numbers_asked a xs)) e)
    go true e false i r = ap (λ m. is_asked a (m, x.1)) (is-same e) ∙ i ∙ sym (absent a n xs (subst (λ m. T (below_all nat_cmp m xs)) (sym (is-same e)) (first _ _ s)))
    go false e true i r = r ∙ sym (ap (λ t. t || member n (numbers_asked a xs)) e)
    go false e false i r = r

-- The first batch that passes a test.

module _ (p : ℕ × List ℕ → Bool) where
  pub met_here : (bs : Table (List ℕ)) (b d : ℕ × List ℕ) → 1 ≤ length bs → p (get_or bs 0 d) ≡ true → Some (get_or bs 0 b).0 ≡ number_of (first_of p bs)
  met_here [] b d l h = absurd (omega (arith, l))
  met_here (x ∷ xs) b d l h = sym (ap (λ t. number_of (elim t as (λ z. Option (ℕ × List ℕ)) [ true ↦ Some x | false ↦ first_of p xs ])) h)

  pub met_after : (bs : Table (List ℕ)) (b : ℕ × List ℕ) (found : Option ℕ) → 1 ≤ length bs → p (get_or bs 0 b) ≡ false → found ≡ number_of (first_of p (take (length bs - 1) (drop 1 bs))) → found ≡ number_of (first_of p bs)
  met_after [] b found l h r = absurd (omega (arith, l))
  met_after (x ∷ xs) b found l h r =
      r
      ∙ ap (λ ys. number_of (first_of p ys)) (take_all (length (x ∷ xs) - 1) xs (omega arith))
      ∙ sym (ap (λ t. number_of (elim t as (λ z. Option (ℕ × List ℕ)) [ true ↦ Some x | false ↦ first_of p xs ])) h)

first-same : (p q : ℕ × List ℕ → Bool) → ((b : ℕ × List ℕ) → p b ≡ q b) → (bs : Table (List ℕ)) → first_of p bs ≡ first_of q bs
first-same p q h [] = refl
first-same p q h (b ∷ bs) =
    ap (λ t. elim t as (λ z. Option (ℕ × List ℕ)) [ true ↦ Some b | false ↦ first_of p bs ]) (h b) ∙ ap (λ o. elim (q b) as (λ z. Option (ℕ × List ℕ)) [ true ↦ Some b | false ↦ o ]) (first-same p q h bs)

any-same : (p q : ℕ → Bool) → ((n : ℕ) → p n ≡ q n) → (xs : List ℕ) → list_any p xs ≡ list_any q xs
any-same p q h [] = refl
any-same p q h (x ∷ xs) = ap (λ b. b || list_any p xs) (h x) ∙ ap (λ b. q x || b) (any-same p q h xs)

-- two lists have a member in common, from either side
in-common : (xs ys : List ℕ) → list_any (λ n. member n ys) xs ≡ list_any (λ n. member n xs) ys
in-common [] ys = sym (none ys)
  where
    none : (zs : List ℕ) → list_any (λ n. member n []) zs ≡ false
    none [] = refl
    none (z ∷ zs) = none zs
in-common (x ∷ xs) ys = ap (λ b. member x ys || b) (in-common xs ys) ∙ add ys
  where
    turned : (a b : ℕ) → (a == b) ≡ (b == a)
    turned a b = grind (arith, nat_tests)

    shuffle : (a b c d : Bool) → ((a || b) || (c || d)) ≡ ((a || c) || (b || d))
    shuffle true b c d = refl
    shuffle false true true d = refl
    shuffle false true false d = refl
    shuffle false false c d = refl

    add : (zs : List ℕ) → (member x zs || list_any (λ n. member n xs) zs) ≡ list_any (λ n. (n == x) || member n xs) zs
    add [] = refl
    add (z ∷ zs) = shuffle (x == z) (member x zs) (member z xs) (list_any (λ n. member n xs) zs) ∙ ap (λ b. (b || member z xs) || (member x zs || list_any (λ n. member n xs) zs)) (turned x z) ∙ ap (λ b. ((z == x) || member z xs) || b) (add zs)

-- A pick by the first operations is that by the closure.

pub front-chosen : (a : Asked) (xs : Issued) (ops : List ℕ) (next : ℕ) (bs : Table (List ℕ)) → IsFrontOf a xs ops → chosen ops next bs (number_of (first_of (is_met ops a xs) bs)) ≡ choice (keys (closure_in a xs)) next bs
front-chosen a xs ops next bs f =
    ap (λ o. chosen ops next bs (number_of o)) (first-same (is_met ops a xs) (has_one_of (keys (closure_in a xs))) met bs)
    ∙ same-front ops (keys (closure_in a xs)) (number_of (first_of (has_one_of (keys (closure_in a xs))) bs)) f.first
    ∙ chosen-choice (keys (closure_in a xs))
  where
    met : (b : ℕ × List ℕ) → is_met ops a xs b ≡ has_one_of (keys (closure_in a xs)) b
    met b = any-same (λ n. member n ops || member n (numbers_asked a xs)) (λ n. member n (keys (closure_in a xs))) (λ n. sym (f.members n)) b.1 ∙ in-common b.1 (keys (closure_in a xs))

    chosen-choice : (cs : List ℕ) → chosen cs next bs (number_of (first_of (has_one_of cs) bs)) ≡ choice cs next bs
    chosen-choice [] = refl
    chosen-choice (c ∷ cs) = refl

    full-same : (os cs : List ℕ) (o : Option ℕ) → take max_batch_ops os ≡ take max_batch_ops cs → new_batch os next o ≡ new_batch cs next o
    full-same os cs None e = ap (Batch next) e
    full-same os cs (Some b) e = refl

    behind-same : (os cs : List ℕ) (o : Option ℕ) → take max_batch_ops os ≡ take max_batch_ops cs → unless_behind os next bs o ≡ unless_behind cs next bs o
    behind-same os cs None e = full-same os cs (full_from next bs) e
    behind-same os cs (Some b) e = refl

    none-some : {A : Type 0} (c : ℕ) (cs : List ℕ) → ◌≡◌ {A = List ℕ} [] (c ∷ cs) → A
    none-some c cs e = absurd (apart e)
      where
        apart : ◌≡◌ {A = List ℕ} [] (c ∷ cs) → ⊥
        apart e = cc

    same-front : (os cs : List ℕ) (o : Option ℕ) → take max_batch_ops os ≡ take max_batch_ops cs → chosen os next bs o ≡ chosen cs next bs o
    same-front [] [] o e = refl
    same-front [] (c ∷ cs) o e = none-some c (take 63 cs) e
    same-front (n ∷ ns) [] o e = none-some n (take 63 ns) (sym e)
    same-front (n ∷ ns) (c ∷ cs) o e = behind-same (n ∷ ns) (c ∷ cs) o e

-- The same for a log, as the pick's parts come.
pub pick-front : (l : LogState) (a : Asked) (made : Pick) (ops seen : List ℕ) (us : Issued) (bs : Table (List ℕ)) (behind : Option ℕ) → made ≡ chosen ops l.next_batch bs behind → behind ≡ number_of (first_of (is_met seen a us) bs) → seen ≡ ops → us ≡ l.undurable → bs ≡ l.batches → IsFrontOf a l.undurable ops → made ≡ pick a l
pick-front l a made ops seen us bs behind e b s u t f =
    e
    ∙ ap (chosen ops l.next_batch bs) (b ∙ ap (λ os. number_of (first_of (is_met os a us) bs)) s ∙ ap (λ xs. number_of (first_of (is_met ops a xs) bs)) u)
    ∙ front-chosen a l.undurable ops l.next_batch bs f
    ∙ ap (choice (keys (closure_in a l.undurable)) l.next_batch) t
    ∙ choice_pick l (closure_in a l.undurable)
