-- Facts that hold where they can't fail.
use Rattle.std.proofs.Common.{◌≡◌, refl, sym, ap, ℕ, T, Bool, true, false, List, [], ◌∷◌, ◌++◌, Option, Some, None}
use Rattle.std.specs.Prelude.{Decides}
use Rattle.std.proofs.lemmas.Bool.{true≢false}
use Rattle.std.proofs.lemmas.Bool.Decides.{Decides-eqb}
use Rattle.std.proofs.lemmas.Slice.Eq.{slice_eq-Decides}
use Rattle.ec_volume.specs.declared.image.Kind.{Kind}
use Rattle.ec_volume.specs.declared.image.Kind.TheVariants as kind
use Rattle.ec_plain.specs.declared.call.Refusal.{Refusal}
use Rattle.ec_plain.specs.declared.call.Refusal.TheVariants as no
use Rattle.ec_plain.specs.declared.call.Reply.{Reply}
use Rattle.ec_plain.specs.declared.call.Reply.TheVariants as reply
use Rattle.ec_history.specs.History.{History, Throughout, Each}
use Rattle.ec_history.specs.declared.entry.Entry.{Entry}

abbrev pub Stable : Type 0 → Type 0
Stable P = (¬ ¬ P) → P

pub stable-T : (b : Bool) → Stable (T b)
stable-T true n = tt
stable-T false n = n (λ t. t)

pub stable-decided : (P : Type 0) (b : Bool) → Decides b P → Stable P
stable-decided P true d n = d.0 refl
stable-decided P false d n = absurd (n (λ p. true≢false (sym (d.1 p))))

pub stable-nat : (m n : ℕ) → Stable (m ≡ n)
stable-nat m n = stable-decided (m ≡ n) _ (Decides-eqb m n)

pub stable-nats : (ms ns : List ℕ) → Stable (ms ≡ ns)
stable-nats ms ns = stable-decided (ms ≡ ns) _ (slice_eq-Decides Decides-eqb ms ns _ refl)

pub stable-names : (ms ns : List (List ℕ)) → Stable (ms ≡ ns)
stable-names ms ns = stable-decided (ms ≡ ns) _ (slice_eq-Decides (λ a b. slice_eq-Decides Decides-eqb a b _ refl) ms ns _ refl)

pub stable-bool : (a b : Bool) → Stable (a ≡ b)
stable-bool true true n = refl
stable-bool false false n = refl
stable-bool true false n = absurd (n (λ e. cc))
stable-bool false true n = absurd (n (λ e. cc))

pub stable-option : (x y : Option ℕ) → Stable (x ≡ y)
stable-option None None n = refl
stable-option (Some x) (Some y) n = ap Some (stable-nat x y (λ k. n (λ e. k (same x y e))))
  where
    same : (x y : ℕ) → Some x ≡ Some y → x ≡ y
    same x y e = cc
stable-option None (Some y) n = absurd (n (λ e. cc))
stable-option (Some x) None n = absurd (n (λ e. cc))

stable-kind : (x y : Kind) → Stable (x ≡ y)
stable-kind kind.File kind.File n = refl
stable-kind kind.Dir kind.Dir n = refl
stable-kind kind.File kind.Dir n = absurd (n (λ e. cc))
stable-kind kind.Dir kind.File n = absurd (n (λ e. cc))

stable-refusal : (x y : Refusal) → Stable (x ≡ y)
stable-refusal (no.NotFound j) (no.NotFound k) n = ap no.NotFound (stable-nat j k (λ u. n (λ e. u (same j k e))))
  where
    same : (j k : ℕ) → no.NotFound j ≡ no.NotFound k → j ≡ k
    same j k e = cc
stable-refusal (no.NotDir j) (no.NotDir k) n = ap no.NotDir (stable-nat j k (λ u. n (λ e. u (same j k e))))
  where
    same : (j k : ℕ) → no.NotDir j ≡ no.NotDir k → j ≡ k
    same j k e = cc
stable-refusal no.IsDir no.IsDir n = refl
stable-refusal no.Exists no.Exists n = refl
stable-refusal no.NotEmpty no.NotEmpty n = refl
stable-refusal no.TooLong no.TooLong n = refl
stable-refusal no.DirFull no.DirFull n = refl
stable-refusal no.Root no.Root n = refl
stable-refusal no.Loop no.Loop n = refl
stable-refusal x y n = absurd (n (λ e. cc))

pub stable-reply : (x y : Reply) → Stable (x ≡ y)
stable-reply reply.Ok reply.Ok n = refl
stable-reply (reply.Data a) (reply.Data b) n = ap reply.Data (stable-nats a b (λ u. n (λ e. u (same a b e))))
  where
    same : (a b : List ℕ) → reply.Data a ≡ reply.Data b → a ≡ b
    same a b e = cc
stable-reply (reply.Names a) (reply.Names b) n = ap reply.Names (stable-names a b (λ u. n (λ e. u (same a b e))))
  where
    same : (a b : List (List ℕ)) → reply.Names a ≡ reply.Names b → a ≡ b
    same a b e = cc
stable-reply (reply.Refused a) (reply.Refused b) n = ap reply.Refused (stable-refusal a b (λ u. n (λ e. u (same a b e))))
  where
    same : (a b : Refusal) → reply.Refused a ≡ reply.Refused b → a ≡ b
    same a b e = cc
stable-reply (reply.Stat k m s w z) (reply.Stat l o t x y) n =
    join (stable-kind k l (λ u. n (λ e. u (one e)))) (stable-nat m o (λ u. n (λ e. u (two e)))) (stable-nat s t (λ u. n (λ e. u (three e)))) (stable-nat w x (λ u. n (λ e. u (four e)))) (stable-nat z y (λ u. n (λ e. u (five e))))
  where
    one : reply.Stat k m s w z ≡ reply.Stat l o t x y → k ≡ l
    one e = cc

    two : reply.Stat k m s w z ≡ reply.Stat l o t x y → m ≡ o
    two e = cc

    three : reply.Stat k m s w z ≡ reply.Stat l o t x y → s ≡ t
    three e = cc

    four : reply.Stat k m s w z ≡ reply.Stat l o t x y → w ≡ x
    four e = cc

    five : reply.Stat k m s w z ≡ reply.Stat l o t x y → z ≡ y
    five e = cc

    join : k ≡ l → m ≡ o → s ≡ t → w ≡ x → z ≡ y → reply.Stat k m s w z ≡ reply.Stat l o t x y
    join a b d f g = cc
stable-reply x y n = absurd (n (λ e. cc))

pub stable-each : {A : Type 0} (P : A → Type 0) → ((x : A) → Stable (P x)) → (xs : List A) → Stable (Each P xs)
stable-each P f [] n = tt
stable-each P f (x ∷ xs) n = (f x (λ u. n (λ e. u e.0)), stable-each P f xs (λ u. n (λ e. u e.1)))

pub stable-throughout : (P : History → ℕ × Entry → Type 0) → ((h : History) (e : ℕ × Entry) → Stable (P h e)) → (past h : History) → Stable (Throughout P past h)
stable-throughout P f past [] n = tt
stable-throughout P f past (e ∷ h) n = (f past e (λ u. n (λ t. u t.0)), stable-throughout P f (past ++ e ∷ []) h (λ u. n (λ t. u t.1)))
