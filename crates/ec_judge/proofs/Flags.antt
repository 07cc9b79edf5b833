-- One more entry, at the marks of the kept operations.
use Rattle.std.proofs.Common.{◌≡◌, refl, sym, ap, subst, ◌∙◌, inl, inr, arith, ℕ, T, Bool, true, false, not, ◌==◌, ◌&&◌, ◌||◌, map, List, [], ◌∷◌, ◌++◌, Option}
use Rattle.std.specs.Prelude.{MatchBool}
use Rattle.std.specs.List.{filter, list_any}
use Rattle.std.specs.Ordering.{nat_cmp}
use Rattle.std.specs.FinMap.{is_sorted}
use Rattle.std.proofs.lemmas.Bool.{and_parts, and_from, eqb-true, true≢false}
use Rattle.std.proofs.lemmas.Bool.Decides.{nat_tests}
use Rattle.ec_volume.specs.Update.{member, operands}
use Rattle.ec_volume.specs.declared.update.Update.{Update}
use Rattle.ec_plain.specs.declared.call.Call.{Call}
use Rattle.ec_order.specs.Order.{Issued, Holds, InClosure, closure}
use Rattle.ec_history.specs.History.{Base, History, Op, Throughout, Covers, same_start, of_start, is_one_of, of_issue, outcome, kept, issued, asks, is_lost}
use Rattle.ec_history.specs.Legal.{leaves}
use Rattle.ec_history.specs.declared.entry.Answer.{Answer}
use Rattle.ec_history.specs.declared.entry.Entry.{Entry}
use Rattle.ec_history.specs.declared.entry.Entry.TheVariants as entry
use Rattle.ec_history.proofs.OfLaws.ForPlacing.Cuts.{throughout-append, throughout-front, throughout-back}
use Rattle.ec_history.proofs.OfLaws.ForPlacing.Least.{list-complete, list-least}
use Rattle.ec_base.proofs.Bools.{on as holds, is-true}

pub flag-step : (U V W : Type 0) (a x : Bool) → MatchBool a (¬ U) U → MatchBool x (¬ V) V → (U → V → W) → (W → U) → (W → V) → MatchBool (a || x) (¬ W) W
flag-step U V W true x u v f g h = λ w. u (g w)
flag-step U V W false true u v f g h = λ w. v (h w)
flag-step U V W false false u v f g h = f u v

module _ (P : History → ℕ × Entry → Type 0) (past : History) (e : ℕ × Entry) where
  pub through-more : Throughout P [] past → P past e → Throughout P [] (past ++ e ∷ [])
  through-more t p = throughout-append P [] past (e ∷ []) t (p, tt)

  pub through-front : Throughout P [] (past ++ e ∷ []) → Throughout P [] past
  through-front t = throughout-front P [] past (e ∷ []) t

  pub through-last : Throughout P [] (past ++ e ∷ []) → P past e
  through-last t = (throughout-back P [] past (e ∷ []) t).0

-- Touched.

touch-test : (y z : Bool) → MatchBool (not y && z) (¬ (T (not (not y) || (not z && true)))) (T (not (not y) || (not z && true)))
touch-test true z = tt
touch-test false true = λ t. t
touch-test false false = tt

pub touched-one : (base : Base) (past : History) (p d f l g : ℕ) (cl : Call) (a : Answer) (op : Option ℕ) (k : Op) → filter (is_one_of k.clerk k.boot (k.number ∷ [])) (kept base past) ≡ k ∷ []
    → MatchBool (not (k.clerk == d) && list_any (λ o. member o (outcome base (kept base past) p cl).touched) (operands k.update))
    (¬ (T (leaves base (kept base past) k.clerk (filter (is_one_of k.clerk k.boot (k.number ∷ [])) (kept base past)) (p, entry.Call d f l g cl a op))))
    (T (leaves base (kept base past) k.clerk (filter (is_one_of k.clerk k.boot (k.number ∷ [])) (kept base past)) (p, entry.Call d f l g cl a op)))
touched-one base past p d f l g cl a op k e =
    let out = outcome base (kept base past) p cl in
    subst (λ ls. MatchBool (not (k.clerk == d) && list_any (λ o. member o out.touched) (operands k.update))
    (¬ (T (leaves base (kept base past) k.clerk ls (p, entry.Call d f l g cl a op)))) (T (leaves base (kept base past) k.clerk ls (p, entry.Call d f l g cl a op)))) (sym e)
    (touch-test (k.clerk == d) (list_any (λ o. member o out.touched) (operands k.update)))

-- Covered.

pub holds-member : (xs : Issued) (n : ℕ) (u : Update) → Holds xs n u → T (member n (map (λ x. x.0) xs))
holds-member [] n u h = absurd h
holds-member (x ∷ xs) n u (inl e) = holds (ap (λ m. m || member n (map (λ x. x.0) xs)) (ap (λ m. n == m) e.0 ∙ same n))
  where
    same : (m : ℕ) → (m == m) ≡ true
    same m = grind (arith, nat_tests)
holds-member (x ∷ xs) n u (inr h) = go (n == x.0) (holds-member xs n u h)
  where
    go : (b : Bool) → T (member n (map (λ x. x.0) xs)) → T (b || member n (map (λ x. x.0) xs))
    go true r = tt
    go false r = r

pub member-holds : (xs : Issued) (n : ℕ) → T (member n (map (λ x. x.0) xs)) → (u : Update) × Holds xs n u
member-holds [] n t = absurd t
member-holds (x ∷ xs) n t = go (n == x.0) refl t (member-holds xs n)
  where
    go : (b : Bool) → (n == x.0) ≡ b → T (b || member n (map (λ x. x.0) xs)) → (T (member n (map (λ x. x.0) xs)) → (u : Update) × Holds xs n u) → (u : Update) × Holds (x ∷ xs) n u
    go true e r f = (x.1, inl (sym (eqb-true n x.0 e), refl))
    go false e r f =
        let k = f r in
        (k.0, inr k.1)

-- the mark of an operation that wasn't lost
pub covered-one : (base : Base) (past : History) (p d f l g : ℕ) (cl : Call) (a : Answer) (op : Option ℕ) (ns : List ℕ) (k : Op)
    → T (is_sorted nat_cmp (of_issue d f (issued base past))) → ns ≡ map (λ x. x.0) (closure (λ n. member n (asks base past (p, entry.Call d f l g cl a op))) (of_issue d f (issued base past)))
    → is_lost k.clerk k.boot k.number past ≡ false
    → MatchBool (is_one_of d f ns k) (¬ (¬ (Covers base past (p, entry.Call d f l g cl a op) k.clerk k.boot k.number))) (¬ (Covers base past (p, entry.Call d f l g cl a op) k.clerk k.boot k.number))
covered-one base past p d f l g cl a op ns k sorted is unlost = go (is_one_of d f ns k) refl
  where
    e : ℕ × Entry
    e = (p, entry.Call d f l g cl a op)

    asked : ℕ → Bool
    asked = λ n. member n (asks base past (p, entry.Call d f l g cl a op))

    no-loss : (b : Bool) → b ≡ false → T (not b)
    no-loss true q = absurd (true≢false q)
    no-loss false q = tt

    flip : (x y : ℕ) → (x == y) ≡ (y == x)
    flip x y = grind (arith, nat_tests)

    go : (x : Bool) → is_one_of d f ns k ≡ x → MatchBool x (¬ (¬ (Covers base past e k.clerk k.boot k.number))) (¬ (Covers base past e k.clerk k.boot k.number))
    go true q = λ no.
        let parts = and_parts (of_start d f k) (member k.number ns) q in
        let start = and_parts (d == k.clerk) (f == k.boot) parts.0 in
        let found = member-holds (closure asked (of_issue d f (issued base past))) k.number (subst (λ m. T (member k.number m)) is (holds parts.1)) in
        let inside : InClosure (of_issue d f (issued base past)) asked k.number = list-least (of_issue d f (issued base past)) asked k.number sorted found.0 found.1 in
        let own : T (same_start d f d f) = holds (ap (λ x. x && (f == f)) (ap (λ x. d == x) (eqb-true d k.clerk start.0) ∙ start.0) ∙ (ap (λ x. f == x) (eqb-true f k.boot start.1) ∙ start.1)) in
        let lost : T (not (is_lost d f k.number past)) = no-loss _ (ap (λ x. is_lost x f k.number past) (eqb-true d k.clerk start.0) ∙ ap (λ x. is_lost k.clerk x k.number past) (eqb-true f k.boot start.1) ∙ unlost) in
        let v : Covers base past (p, entry.Call d f l g cl a op) d f k.number = record { own = own; closed_in = inside; not_lost = lost } in
        no (subst (λ x. Covers base past (p, entry.Call d f l g cl a op) k.clerk x k.number) (eqb-true f k.boot start.1) (subst (λ x. Covers base past (p, entry.Call d f l g cl a op) x f k.number) (eqb-true d k.clerk start.0) v))
    go false q = λ v.
        let start = and_parts (k.clerk == d) (k.boot == f) (is-true _ v.own) in
        let inside : InClosure (of_issue d f (issued base past)) asked k.number =
        subst (λ x. InClosure (of_issue d x (issued base past)) asked k.number) (eqb-true k.boot f start.1) (subst (λ x. InClosure (of_issue x k.boot (issued base past)) asked k.number) (eqb-true k.clerk d start.0) v.closed_in) in
        let found = list-complete (of_issue d f (issued base past)) asked k.number sorted inside in
        let there : T (member k.number ns) = subst (λ m. T (member k.number m)) (sym is) (holds-member (closure asked (of_issue d f (issued base past))) k.number found.0 found.1) in
        let yes : is_one_of d f ns k ≡ true = and_from (of_start d f k) (member k.number ns) (and_from (d == k.clerk) (f == k.boot) (flip d k.clerk ∙ start.0) (flip f k.boot ∙ start.1)) (is-true _ there) in
        true≢false (sym yes ∙ q)
