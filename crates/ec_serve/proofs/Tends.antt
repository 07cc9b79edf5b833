-- What is known of a server's links when all jobs have ended.
use Rattle.std.proofs.Common.{◌≡◌, ◌⊎◌, ◌≤◌, ◌<◌, ◌+◌, ℕ, Bool, true, false, List, [], ◌∷◌, ◌++◌, map, length, refl, sym, ap, ◌∙◌, subst, ⊎_elim, arith}
use Rattle.std.specs.declared.snapshot.Snapshot.{Snapshot}
use Rattle.std.proofs.lemmas.List.{length-map}
use Rattle.ec_link.specs.Happenings.{total}
use Rattle.ec_link.specs.Nets.{Ended}
use Rattle.ec_link.specs.JobCounts.{refused}
use Rattle.ec_link.specs.declared.spawn.Spawned.{Spawned}
use Rattle.ec_link.specs.declared.spawn.Spawned.TheVariants as spawned
use Rattle.ec_lock.specs.Steps.{Member}
use Rattle.ec_servernode.specs.declared.step.Step.{Step}
use Rattle.ec_serve.specs.OfThreads.Moments.{Back}
use Rattle.ec_serve.specs.OfThreads.ServingMoments.{Moment, GoesOn}
use Rattle.ec_serve.specs.Serve.{Outer, AllBack}
use Rattle.ec_serve.specs.ServerRuns.{Tends, tended_of}
use Rattle.ec_serve.specs.declared.ending.Tended.{Tended as Ends}
use Rattle.ec_serve.specs.declared.ending.Tended.TheVariants as tended

map_both : {A B C : Type 0} (f : A → B) (g : B → C) (xs : List A) → map (λ x. g (f x)) xs ≡ map g (map f xs)
map_both f g [] = refl
map_both f g (x ∷ xs) = ap (λ l. g (f x) ∷ l) (map_both f g xs)

total_both : {A B : Type 0} (f : A → B) (g : B → ℕ) (xs : List A) → total (λ x. g (f x)) xs ≡ total g (map f xs)
total_both f g [] = refl
total_both f g (x ∷ xs) = ap (λ n. g (f x) + n) (total_both f g xs)

pub carry : {A : Type 0} (a b : A) → a ≡ b → (P : A → Type 0) → P a → P b
carry a b e P h = subst P e h

-- neither count falls from before the door was opened to the last moment
pub later_by : (before first last starts later more : ℕ) → before ≤ first → first ≤ last → later ≡ starts + more → (before ≤ last) × (starts ≤ later)
later_by before first last starts later more opened ran spawned = (omega (arith, opened, ran), omega (arith, spawned))

-- the door was opened first
pub tends_before : (count : ℕ) (t : Ends) (joined : List ℕ) (steps : List Step) (old mid later : Outer) → old.faults ≤ mid.faults → mid.bad ≡ old.bad → mid.ended ≡ old.ended → mid.starts ≡ old.starts → Tends count t joined steps mid later → Tends count t joined steps old later
tends_before count tended.Done joined steps old mid later faults bad ended starts h = (
  record {
    links = h.0.links;
    number = h.0.number;
    ended = h.0.ended ∙ ap (λ l. l ++ map (λ (b : Back). b.0) h.0.links) ended;
    bad = h.0.bad ∙ ap (λ n. n + total (λ (b : Back). b.1) h.0.links) bad;
    passes = h.0.passes;
    distinct = h.0.distinct;
    own = h.0.own;
  },
  h.1,
)
tends_before count tended.NetFailed joined steps old mid later faults bad ended starts h = omega (arith, faults, h)
tends_before count tended.NotStarted joined steps old mid later faults bad ended starts h = subst (λ n. n < later.starts) starts h
tends_before count tended.Cut joined steps old mid later faults bad ended starts h = tt

module _ {N L : Type 0} (faults_of bad_of : N → ℕ) (ended_of : N → List Ended) (back_of : Snapshot L → Back) where
  -- from the first moment to the last
  pub record Tended (a b : Moment N L) (count : ℕ) (s : Spawned) (starts starts_later : ℕ) : Type 0 where
    pub goes : GoesOn faults_of bad_of ended_of back_of a b
    pub left : a.left ≡ count
    pub begun : a.begun ≡ 0
    pub back : a.back ≡ []
    pub failed : a.failed ≡ false
    pub each : s ≡ spawned.All → b.begun + length a.back ≡ a.begun + length b.back
    pub over : s ≡ spawned.All → (b.left ≡ 0) ⊎ ((b.failed ≡ true) ⊎ (b.wants ≡ true))
    pub spawns : starts_later ≡ starts + refused s

  abbrev pub outer : ℕ → N → Outer
  outer starts n = record { faults = faults_of n; bad = bad_of n; ended = ended_of n; starts = starts }

  pub all_back : (a b : Moment N L) (count : ℕ) (starts later : ℕ) → Tended a b count spawned.All starts later → b.failed ≡ false → b.wants ≡ false → Tends count tended.Done b.joined b.steps (outer starts a.net) (outer later b.net)
  all_back a b count starts later t up rich =
      let back = t.goes.links rich in (
        record {
          links = map back_of t.goes.more;
          number = length-map t.goes.more back_of ∙ all;
          ended = back.ended ∙ ap (λ l. ended_of a.net ++ l) (map_both back_of (λ l. l.0) t.goes.more);
          bad = back.bad ∙ ap (λ n. bad_of a.net + n) (total_both back_of (λ l. l.1) t.goes.more);
          passes = t.goes.passes;
          distinct = t.goes.distinct;
          own = back.own;
        },
        t.goes.joined,
      ) where
        none_left : b.left ≡ 0
        none_left = ⊎_elim (λ (e : b.left ≡ 0). e) (λ (e : (b.failed ≡ true) ⊎ (b.wants ≡ true)). ⊎_elim (λ (f : b.failed ≡ true). absurd (cc (sym up ∙ f))) (λ (w : b.wants ≡ true). absurd (cc (sym rich ∙ w))) e) (t.over refl)

        all : length t.goes.more ≡ count
        all =
            let number = t.goes.number in
            let left = t.left in
            let begun = t.begun in
            let each = t.each refl in
            let empty : length a.back ≡ 0 = ap length t.back in
            let more : length b.back ≡ length t.goes.more = ap length t.goes.back ∙ ap (λ l. length (l ++ t.goes.more)) t.back in
            let none = none_left in
            omega (arith, number, left, begun, each, empty, more, none)

  -- by who started the threads, by whether the net failed, and by whether memory was wanting
  pub tends : (a b : Moment N L) (count : ℕ) (s : Spawned) (starts later : ℕ) → Tended a b count s starts later → Tends count (tended_of s b.failed b.wants) b.joined b.steps (outer starts a.net) (outer later b.net)
  tends a b count s starts later t = by s b.failed b.wants refl refl t
    where
      by : (s : Spawned) (failed wants : Bool) → b.failed ≡ failed → b.wants ≡ wants → Tended a b count s starts later → Tends count (tended_of s failed wants) b.joined b.steps (outer starts a.net) (outer later b.net)
      by spawned.Failed failed wants f w t = let is = t.spawns in omega (arith, is)
      by spawned.NoMemory failed wants f w t = tt
      by spawned.All true wants f w t = ⊎_elim (λ (was : a.failed ≡ true). absurd (cc (sym t.failed ∙ was))) (λ (rose : faults_of a.net < faults_of b.net). rose) (t.goes.fails f)
      by spawned.All false true f w t = tt
      by spawned.All false false f w t = all_back a b count starts later t f w
