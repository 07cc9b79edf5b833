-- The step stands behind each answer of its clerk: in its session, whether it ended or not, and in none.
use Rattle.std.proofs.Common.{◌≡◌, refl, sym, ap, subst, ◌∙◌, inl, inr, ◌⊎◌, arith, ◌<◌, ◌+◌, ℕ, zero, suc, T, Bool, true, false, ◌==◌, ◌&&◌, List, [], ◌∷◌, ◌++◌, length, Option, Some, None}
use Rattle.std.specs.Prelude.{is_some}
use Rattle.std.proofs.lemmas.Bool.{and_parts, cases_eq, true≢false}
use Rattle.ec_base.specs.declared.ids.Age.{Age}
use Rattle.ec_history.specs.History.{Each, Op}
use Rattle.ec_history.specs.declared.entry.Answer.{Answer}
use Rattle.ec_history.specs.declared.shown.Shown.TheVariants.{Answered}
use Rattle.ec_protocol.specs.Clerk.{Doing, Tried, Waits, try, try_all, verdict, with_clerk}
use Rattle.ec_protocol.specs.Clerk as clerk
use Rattle.ec_protocol.specs.declared.clerk.Clerk.{Clerk}
use Rattle.ec_protocol.specs.declared.clerk.Out.TheVariants as out
use Rattle.ec_protocol.specs.declared.clerk.Waiting.{Waiting}
use Rattle.ec_coherence.specs.System.{System, Ghost}
use Rattle.ec_coherence.specs.Steps.{doing_in}
use Rattle.ec_coherence.proofs.ForBatches.ClerkIn.{start-same}
use Rattle.ec_coherence.proofs.ForClerk.Settling.{Keeping, all-keeps}
use Rattle.ec_coherence.proofs.ForClerk.Try.{OnTried}
use Rattle.ec_coherence.proofs.ForClerk.TriedList.{same-verdict}
use Rattle.ec_coherence.proofs.ForServer.Tables.{same_some, some-of}
use Rattle.ec_coherence.specs.CommitLaws.{AllAgree}
use Rattle.ec_lawful.specs.OfClerkSteps.CallLaws.{IsStillIf, Passes}
use Rattle.ec_lawful.specs.OfClerkSteps.Waits.{HasLine}
use Rattle.ec_lawful.proofs.OfClerkSteps.ForCalls.Quiet.{quiet-lines}
use Rattle.ec_lawful.proofs.OfClerkSteps.ForCalls.Still.{tries-answer}
use Rattle.ec_coherence.specs.Answers.{Gives, answered_ghost, fresh_of, op_given}
use Rattle.ec_lawful.specs.OfClerkSteps.Answering.{Suits, answered_clerk}
use Rattle.ec_lawful.specs.OfClerkSteps.AnswerLaws.{AllTriesStand, AreLined, GoesOnWith, IsTried, OneCarries, TriesCarry, TriesStand, answered_so}
use Rattle.ec_lawful.specs.OfClerkSteps.Trying.{AnswersWith, IsTrying}
use Rattle.ec_lawful.proofs.OfClerkSteps.Given.{Comes, SinglesStand, all-tries-stand, op-same, spent-verdict, tries-stand}
use Rattle.ec_lawful.proofs.OfClerkSteps.Later as later
use Rattle.ec_lawful.proofs.OfClerkSteps.Living as living
use Rattle.ec_lawful.proofs.OfClerkSteps.Outer as outer
use Rattle.ec_lawful.proofs.OfClerkSteps.OuterLate as outer-late
use Rattle.ec_lawful.proofs.OfClerkSteps.Single as single
use Rattle.ec_lawful.proofs.OfClerkSteps.Single.{each-mid}
use Rattle.ec_base.proofs.Numbers.{same-self as same, equal}
use Rattle.ec_base.proofs.Options.{none_some}

-- Whether a session of this clerk and age ended.
module _ (γ : Ghost) (c : ℕ) (age : Age) where
  abbrev Ended : Type 0
  Ended = (s : ℕ) × (ks : List Op) × (γ.owner s ≡ Some (c, age)) × (γ.frozen s ≡ Some ks)

  abbrev same_age : Age → Bool
  same_age a = (a.boot == age.boot) && (a.round == age.round)

  is-age : (a : Age) → same_age a ≡ true → a ≡ age
  is-age a q = let two = and_parts (a.boot == age.boot) (a.round == age.round) q in
      ap (λ z. record { boot = z; round = a.round }) (equal a.boot age.boot two.0) ∙ ap (λ z. record { boot = age.boot; round = z }) (equal a.round age.round two.1)

  one : (s : ℕ) → (γ.owner s ≡ Some (c, age) → γ.frozen s ≡ None) ⊎ ((ks : List Op) × (γ.owner s ≡ Some (c, age)) × (γ.frozen s ≡ Some ks))
  one s = by (γ.owner s) refl (γ.frozen s) refl
    where
      told : (f : ℕ) (a : Age) (ks : List Op) → γ.owner s ≡ Some (f, a) → γ.frozen s ≡ Some ks → (z : Bool) → ((f == c) && same_age a) ≡ z → (γ.owner s ≡ Some (c, age) → γ.frozen s ≡ None) ⊎ ((ks : List Op) × (γ.owner s ≡ Some (c, age)) × (γ.frozen s ≡ Some ks))
      told f a ks q r true e = let two = and_parts (f == c) (same_age a) e in inr (ks, q ∙ ap (λ z. Some (z, a)) (equal f c two.0) ∙ ap (λ z. Some (c, z)) (is-age a two.1), r)
      told f a ks q r false e = inl (λ p. absurd (true≢false (sym (ap (λ z. (z.0 == c) && same_age z.1) (same_some (sym q ∙ p)) ∙ ap (λ z. z && same_age age) (same c) ∙ ap (λ z. z && (age.round == age.round)) (same age.boot) ∙ same age.round) ∙ e)))

      by : (o : Option (ℕ × Age)) → γ.owner s ≡ o → (z : Option (List Op)) → γ.frozen s ≡ z → (γ.owner s ≡ Some (c, age) → γ.frozen s ≡ None) ⊎ ((ks : List Op) × (γ.owner s ≡ Some (c, age)) × (γ.frozen s ≡ Some ks))
      by o q None r = inl (λ p. r)
      by None q (Some ks) r = inl (λ p. absurd (none_some (sym q ∙ p)))
      by (Some (f, a)) q (Some ks) r = told f a ks q r ((f == c) && same_age a) refl

  pub find : (n : ℕ) → ((s : ℕ) → s < n → γ.owner s ≡ Some (c, age) → γ.frozen s ≡ None) ⊎ Ended
  find zero = inl (λ s l. absurd (omega (arith, l)))
  find (suc n) = go (one n) (find n)
    where
      go : (γ.owner n ≡ Some (c, age) → γ.frozen n ≡ None) ⊎ ((ks : List Op) × (γ.owner n ≡ Some (c, age)) × (γ.frozen n ≡ Some ks)) → ((s : ℕ) → s < n → γ.owner s ≡ Some (c, age) → γ.frozen s ≡ None) ⊎ Ended → ((s : ℕ) → s < suc n → γ.owner s ≡ Some (c, age) → γ.frozen s ≡ None) ⊎ Ended
      go x (inr f) = inr f
      go (inr x) (inl f) = inr (n, x.0, x.1, x.2)
      go (inl x) (inl f) = inl (λ s l. elim (cases_eq s n) [
        | inl e ↦ λ q. ap γ.frozen e ∙ x (sym (ap γ.owner e) ∙ q)
        | inr e ↦ f s (below s n l e)
      ])
        where
          below : (s n : ℕ) → s < suc n → (s ≡ n → ⊥) → s < n
          below s n l e = omega (arith, l, e)

module _ (g : System) (c : ℕ) (d : Doing) (γ : Ghost) (before rest : List Waiting) (w : Waiting) (a : Answer) (op : Option ℕ) where
  abbrev left : Clerk
  left = record (d.clerk) { waiting = before ++ rest }

  abbrev now : Clerk
  now = answered_clerk (verdict w.call left) left

  -- behind this answer, at the start
  abbrev At : ℕ → Type 0
  At b = (t : IsTrying g c b d γ) (split : d.clerk.waiting ≡ before ++ w ∷ rest) → Gives g.durable.max_objects left (verdict w.call left) a op now.owed → Suits (verdict w.call left) left → Each (HasLine (doing_in c b d γ g) c) (before ++ rest)
      → Passes d.clerk w → Comes g c b d γ (single.l g c b d γ t before rest w split) w a op now

  module _ (b : ℕ) (t : IsTrying g c b d γ) (split : d.clerk.waiting ≡ before ++ w ∷ rest) (gives : Gives g.durable.max_objects left (verdict w.call left) a op now.owed) (suit : Suits (verdict w.call left) left) (lines : Each (HasLine (doing_in c b d γ g) c) (before ++ rest)) where
    abbrev l : ℕ
    l = single.l g c b d γ t before rest w split

    -- the others have their lines
    comes : (δ : Ghost) → δ.shown ≡ γ.shown ++ Answered l c w.call a op ∷ [] → AnswersWith g c b d γ l w.call a op δ → IsTrying g c b (record d { clerk = now; outs = d.outs ++ out.Answer w.no a op ∷ [] }) δ → Comes g c b d γ l w a op now
    comes δ shown how t2 = (δ, how, t2, single.lines-on g c b d γ t before rest w split a op gives suit lines δ shown t2)

    -- an answer at the end of the history
    abbrev plain : Ghost
    plain = answered_ghost c l w.call a op (fresh_of left) (op_given c b (length γ.shown + 1) left (verdict w.call left)) γ

    ordinary : IsTrying g c b (record d { clerk = now; outs = d.outs ++ out.Answer w.no a op ∷ [] }) plain → Comes g c b d γ l w a op now
    ordinary t2 = comes plain refl (inl (ap (λ z. answered_ghost c l w.call a op (fresh_of d.clerk) z γ) (op-same c b (length γ.shown + 1) d.clerk (before ++ rest) (verdict w.call d.clerk)))) t2

  within : (s : ℕ) (age : Age) → γ.owner s ≡ Some (c, age) → d.clerk.session ≡ Some s → At age.boot
  within s age owns in_it t split gives suit lines passes = elim ((((t.stands).0).invariant).images.cut_off s (some-of owns)) [
    | inl o ↦ ordinary age.boot t split gives suit lines (living.living g c s age d γ t owns in_it before rest w split a op gives suit lines passes o)
    | inr f ↦ ended (γ.frozen s) refl f
  ]
    where
      ended : (z : Option (List Op)) → γ.frozen s ≡ z → T (is_some z) → Comes g c age.boot d γ (single.l g c age.boot d γ t before rest w split) w a op now
      ended None q f = absurd f
      ended (Some ks) q f = comes age.boot t split gives suit lines (later.δ g c s age d γ t owns in_it ks q before rest w split a op gives suit lines passes) refl
          (inr (s, ks, ((((t.stands).0).invariant).sessions.in_session c age.boot s d.clerk (start-same c age.boot d.clerk g.clerks) in_it).0, q, refl)) (later.later g c s age d γ t owns in_it ks q before rest w split a op gives suit lines passes)

  without : (b : ℕ) → d.clerk.session ≡ None → At b
  without b none t split gives suit lines passes = elim (find γ c d.clerk.age g.durable.next_session) [
    | inl f ↦ ordinary b t split gives suit lines (outer.outer g c b d γ t none before rest w split a op gives suit lines passes (λ s q. f s (((((t.stands).0).invariant).sessions).owned s (c, d.clerk.age) q).0 q))
    | inr f ↦ comes b t split gives suit lines (outer-late.δ g c b f.0 d γ t none f.2 f.1 f.3 before rest w split a op gives suit lines passes) refl (inr (f.0, f.1, f.2, f.3, refl))
        (outer-late.outer-late g c b f.0 d γ t none f.2 f.1 f.3 before rest w split a op gives suit lines passes)
  ]

pub singles : SinglesStand
singles g c b d γ t before rest w split a op gives suit lines passes = elim t.place [
  | inl none ↦ without g c d γ before rest w a op b none t split gives suit lines passes
  | inr u ↦ subst (At g c d γ before rest w a op) (u.1).boot (within g c d γ before rest w a op u.0 (u.1).age (u.1).owns (u.1).session) t split gives suit lines passes
]

pub tries-on : TriesStand
tries-on = tries-stand singles

pub all-tries-on : AllTriesStand
all-tries-on = all-tries-stand tries-on

-- With a further fact.

module _ (g : System) (c b : ℕ) (Q : Doing → Ghost → Type 0) (on : GoesOnWith g c b Q) where
  -- the facts of the step as they stand
  all-in : (d : Doing) (γ : Ghost) → IsTrying g c b d γ → AllAgree (doing_in c b d γ g)
  all-in d γ t = (((t.stands).0).invariant, (t.stands).1, (t.stands).2, (t.stands).3)

  one-on : (d : Doing) (γ : Ghost) → IsTrying g c b d γ → AreLined g c b d γ → Q d γ → (before rest : List Waiting) (w : Waiting) → d.clerk.waiting ≡ before ++ w ∷ rest → (a : Answer) (op : Option ℕ)
      → let left : Clerk = record (d.clerk) { waiting = before ++ rest } in Gives g.durable.max_objects left (verdict w.call left) a op (answered_clerk (verdict w.call left) left).owed → Suits (verdict w.call left) left → Passes d.clerk w
      → (δ : Ghost) × IsTrying g c b (answered_so (before ++ rest) w a op d) δ × AreLined g c b (answered_so (before ++ rest) w a op d) δ × Q (answered_so (before ++ rest) w a op d) δ
  one-on d γ t lines q before rest w split a op gives suit passes =
      let x = singles g c b d γ t before rest w split a op gives suit (each-mid (HasLine (doing_in c b d γ g) c) before rest w (subst (Each (HasLine (doing_in c b d γ g) c)) split lines)).1 passes in
      (x.0, x.2, x.3, on.answers d (answered_so (before ++ rest) w a op d) γ x.0 (single.l g c b d γ t before rest w split) w.call a op (all-in d γ t) (all-in (answered_so (before ++ rest) w a op d) x.0 x.2) x.1 q)

  -- the step, where calls had these lines when the tries began
  module _ (L : Type 0) where
    abbrev Goes : Doing → Type 0
    Goes e = T (is_some e.spent) ⊎ ((δ : Ghost) × IsTrying g c b e δ × Q e δ × (L → AreLined g c b e δ))

    one-goes : (before : List Waiting) (p : Waiting) (ws : List Waiting) (e : Doing) → Goes e → e.clerk.waiting ≡ before ++ p ∷ ws → Keeping Goes before p ws (try p e)
    one-goes before p ws e h q = elim h [
      | inl x ↦ by-spent (try p e) (spent-verdict p (verdict p.call e.clerk) e x) stays
      | inr t ↦ by-try t.0 t.1 t.2 t.3 (try p e) (tries-on g c b e t.0 t.1 before ws p q) (tries-answer p e).1 stays
    ]
      where
        stays : OnTried (λ f. f.clerk.waiting ≡ before ++ p ∷ ws) (try p e)
        stays = same-verdict (before ++ p ∷ ws) p (verdict p.call e.clerk) e q

        by-spent : (r : Tried) → OnTried (λ f. T (is_some f.spent)) r → OnTried (λ f. f.clerk.waiting ≡ before ++ p ∷ ws) r → Keeping Goes before p ws r
        by-spent (Waits f) x i = (inl x, i)
        by-spent (clerk.Answered f) x i = inl x

        by-try : (γ : Ghost) → IsTrying g c b e γ → Q e γ → (L → AreLined g c b e γ) → (r : Tried) → IsTried g c b e γ before p ws r → IsStillIf e r → OnTried (λ f. f.clerk.waiting ≡ before ++ p ∷ ws) r → Keeping Goes before p ws r
        by-try γ t also lines (Waits f) x s i = elim x [
          | inl y ↦ (inl y, i)
          | inr y ↦ (inr (γ, y.0, on.stays e f γ also, (λ l. quiet-lines g c b e f γ (s.0).quiet (lines l))), i)
        ]
        by-try γ t also lines (clerk.Answered f) x s i = let m = with_clerk (λ k. record k { waiting = before ++ ws }) f in inr (x.3, x.6, on.answers e m γ x.3 x.0 p.call x.1 x.2 (all-in e γ t) (all-in m x.3 x.6) x.5 also, (λ l. x.7))

    all-go : (e : Doing) → Goes e → Goes (try_all e)
    all-go e h = all-keeps Goes one-goes e h

  tries-carry : (d : Doing) (γ : Ghost) → IsTrying g c b d γ → Q d γ → T (is_some (try_all d).spent) ⊎ ((δ : Ghost) × IsTrying g c b (try_all d) δ × Q (try_all d) δ × (AreLined g c b d γ → AreLined g c b (try_all d) δ))
  tries-carry d γ t q = all-go (AreLined g c b d γ) d (inr (γ, t, q, (λ l. l)))

pub one-carries : (g : System) (c b : ℕ) (Q : Doing → Ghost → Type 0) → OneCarries g c b Q
one-carries g c b Q on = one-on g c b Q on

pub all-carry : (g : System) (c b : ℕ) (Q : Doing → Ghost → Type 0) → TriesCarry g c b Q
all-carry g c b Q on = tries-carry g c b Q on
