-- What a cut-off start lost, as its log, the lines and the history have it: the same operations.
use Rattle.std.proofs.Common.{◌≡◌, refl, sym, ap, subst, ◌∙◌, ◌<◌, ℕ, Bool, true, false, not, ◌==◌, ◌&&◌, cond, map, T, List, [], ◌∷◌, ◌++◌, Some, append_assoc}
use Rattle.std.specs.Prelude.{⊤}
use Rattle.std.specs.List.{filter, list_any}
use Rattle.ec_base.specs.Tables.{keys}
use Rattle.ec_base.specs.declared.ids.Age.{Age}
use Rattle.ec_volume.specs.Update.{member, operands}
use Rattle.ec_history.specs.History.{Base, Each, History, Op, is_entry_of, is_one_of, kept, numbers, of_start, owed, pairs_of, same_start}
use Rattle.ec_history.specs.declared.entry.Entry.TheVariants as entry
use Rattle.ec_history.proofs.OfLaws.ForPlacing.More.{owed-others, owed-step}
use Rattle.ec_machine_laws.proofs.Losing.{lost-issued}
use Rattle.ec_sessions.specs.declared.window.Window.{Window}
use Rattle.ec_log.specs.Log.{lost}
use Rattle.ec_log.specs.declared.state.LogState.{LogState}
use Rattle.ec_cache.specs.OfReport.Report as report
use Rattle.ec_cache.specs.OfReport.Report.{owe}
use Rattle.ec_protocol.specs.Clerk.{with_operands}
use Rattle.ec_protocol.specs.declared.clerk.Clerk.{Clerk}
use Rattle.ec_coherence.specs.System.{System, base_of, is_of}
use Rattle.ec_coherence.specs.Events.{CutAgrees, EventsAgree, shown_boot, shown_op}
use Rattle.ec_coherence.specs.Log.{Knows, numbered}
use Rattle.ec_coherence.proofs.ForServer.Lists.{each-always, each-turn, filter-alike, filter-map, filter-two}
use Rattle.ec_coherence.specs.Starts.{AreAlike}
use Rattle.ec_coherence.proofs.Lost as losses
use Rattle.ec_coherence.proofs.Lost.{in-part, of-part}
use Rattle.ec_lawful.specs.OfClerkSteps.Cuts.{lost_of}
use Rattle.ec_base.proofs.Bools.{left as and_first, and-both as and_both, same_tests, right as and_next}
use Rattle.ec_base.proofs.Numbers.{same-self as same}
use Rattle.ec_base.proofs.Lists.{map_twice as map-two}

-- the log lost what isn't durable
pub log-lost : (w : Window) (l : LogState) (own dur : Op → Bool) (ks : List Op) → Knows l w (filter own ks) dur → lost w l ≡ numbered (filter (λ o. own o && not (dur o)) ks)
log-lost w l own dur ks kn =
    lost-issued w l (numbered (filter own ks)) kn.known kn.durable kn.log kn.tells kn.rest kn.sure
    ∙ filter-map (λ x. not (kn.durable x.0)) (λ o. (o.number, o.update)) (filter own ks)
    ∙ ap numbered (filter-alike (λ o. not (kn.durable o.number)) (λ o. not (dur o)) (filter own ks) (each-turn (λ o. dur o ≡ kn.durable o.number) (λ o. not (kn.durable o.number) ≡ not (dur o)) (filter own ks) (λ o e. ap not (sym e)) kn.agrees)
    ∙ filter-two (λ o. not (dur o)) own ks)

pub keys-are : (ks : List Op) → keys (numbered ks) ≡ numbers ks
keys-are ks = map-two (λ e. e.0) (λ o. (o.number, o.update)) ks

-- what is owed for operations is read off their numbers and operands
pub owed-as : (ks : List Op) → report.pairs_of (with_operands (numbered ks)) ≡ pairs_of ks
owed-as [] = refl
owed-as (k ∷ ks) = ap (λ qs. map (λ o. (k.number, o)) (operands k.update) ++ qs) (owed-as ks)

owed-alike : (f : Op → Op) → ((k : Op) → (f k).number ≡ k.number) → ((k : Op) → (f k).update ≡ k.update) → (ks : List Op) → pairs_of (map f ks) ≡ pairs_of ks
owed-alike f n u [] = refl
owed-alike f n u (k ∷ ks) = ap (λ m. map (λ o. (m, o)) (operands (f k).update) ++ pairs_of (map f ks)) (n k) ∙ ap (λ v. map (λ o. (k.number, o)) (operands v) ++ pairs_of (map f ks)) (u k)
    ∙ ap (λ qs. map (λ o. (k.number, o)) (operands k.update) ++ qs) (owed-alike f n u ks)

-- of a history with a loss of the start and no entry of it behind
pub owed-behind : (B : Base) (h : History) (at c b : ℕ) (ns : List ℕ) (h' : History) → list_any (λ e. is_entry_of c b e.1) h' ≡ false
    → owed B (h ++ (at, entry.Loss c b ns) ∷ h') c b ≡ owed B h c b ++ pairs_of (filter (is_one_of c b ns) (kept B h))
owed-behind B h at c b ns h' alone =
    ap (λ x. owed B x c b) (sym (append_assoc h ((at, entry.Loss c b ns) ∷ []) h'))
    ∙ owed-others B (h ++ (at, entry.Loss c b ns) ∷ []) h' c b alone
    ∙ owed-step B h (at, entry.Loss c b ns) c b
    ∙ ap (λ z. cond z (owed B h c b ++ pairs_of (filter (is_one_of c b ns) (kept B h))) (owed B h c b)) (own c b)
  where
    own : (c b : ℕ) → same_start c b c b ≡ true
    own c b = ap (λ z. z && (b == b)) (same c) ∙ same b

module _ (g : System) (ev : EventsAgree g) (alike : AreAlike g.ghost) (s c : ℕ) (age : Age) (owner-is : g.ghost.owner s ≡ Some (c, age)) (above : g.first_boot c < age.boot) (ks : List Op) where
  abbrev sb : ℕ
  sb = shown_boot g c age.boot

  abbrev gone : List Op
  gone = lost_of g.ghost s ks

  abbrev pending : Op → Bool
  pending k = is_of (g.ghost.owner s) k && not (g.ghost.is_durable k)

  -- what is named is what was lost
  named : Each (λ k. is_one_of c sb (numbers gone) (shown_op g k) ≡ pending k) ks
  named = each-turn (λ k. T (pending k) → T (member k.number (numbers gone))) (λ k. is_one_of c sb (numbers gone) (shown_op g k) ≡ pending k) ks one (in-part pending ks)
    where
      one : (k : Op) → (T (pending k) → T (member k.number (numbers gone))) → is_one_of c sb (numbers gone) (shown_op g k) ≡ pending k
      one k f = same_tests (is_one_of c sb (numbers gone) (shown_op g k)) (pending k) there back
        where
          there : T (is_one_of c sb (numbers gone) (shown_op g k)) → T (pending k)
          there t =
              let mine = subst T (losses.same-start g ev alike s c age owner-is above k) (and_first (of_start c sb (shown_op g k)) (member k.number (numbers gone)) t) in
              let j = of-part pending (λ z. ⊤) k.number ks (each-always (λ z. ⊤) ks (λ z. tt)) (and_next (of_start c sb (shown_op g k)) (member k.number (numbers gone)) t) in
              let its = losses.of-pending g ev alike s c age owner-is above j.0 j.1 in
              let two = losses.same-clerks g ev alike s c age owner-is above j.0 k its.0 mine in
              losses.is-pending g ev alike s c age owner-is above k mine (subst (λ z. T (not z)) (alike j.0 k two.0 two.1 (sym j.2)) its.1)

          back : T (pending k) → T (is_one_of c sb (numbers gone) (shown_op g k))
          back t = and_both (of_start c sb (shown_op g k)) (member k.number (numbers gone)) (subst T (sym (losses.same-start g ev alike s c age owner-is above k)) (losses.of-pending g ev alike s c age owner-is above k t).0) (f t)

  pub lost-pairs : pairs_of (filter (is_one_of c sb (numbers gone)) (map (shown_op g) ks)) ≡ pairs_of gone
  lost-pairs = ap pairs_of (filter-map (is_one_of c sb (numbers gone)) (shown_op g) ks) ∙ owed-alike (shown_op g) (λ k. refl) (λ k. refl) (filter (λ k. is_one_of c sb (numbers gone) (shown_op g k)) ks)
      ∙ ap pairs_of (filter-alike (λ k. is_one_of c sb (numbers gone) (shown_op g k)) pending ks named)

  -- once it's told it owes what its log lost
  module _ (b : ℕ) (boot : age.boot ≡ b) (k : Clerk) (z : CutAgrees g c b s k ks) (named-so : z.lost ≡ numbers gone) where
    pub owes-loss : owed (base_of g) g.ghost.history c (shown_boot g c b) ≡ owe (with_operands (numbered gone)) k.owed
    owes-loss =
        let here : shown_boot g c b ≡ sb = ap (shown_boot g c) (sym boot) in
        ap (λ h. owed (base_of g) h c (shown_boot g c b)) z.was
        ∙ owed-behind (base_of g) z.before z.at c (shown_boot g c b) z.lost z.behind z.alone
        ∙ ap (λ qs. qs ++ pairs_of (filter (is_one_of c (shown_boot g c b) z.lost) (kept (base_of g) z.before))) z.owes
        ∙ ap (λ os. k.owed ++ pairs_of (filter (is_one_of c (shown_boot g c b) z.lost) os)) z.keeps
        ∙ ap (λ ns. k.owed ++ pairs_of (filter (is_one_of c (shown_boot g c b) ns) (map (shown_op g) ks))) named-so
        ∙ ap (λ x. k.owed ++ pairs_of (filter (is_one_of c x (numbers gone)) (map (shown_op g) ks))) here
        ∙ ap (λ qs. k.owed ++ qs) (lost-pairs ∙ sym (owed-as gone))
