-- In a world whose lines are plain, a clerk's next operation is one more than the plain volume issued for it.
use Rattle.std.proofs.Common.{◌≡◌, refl, sym, ap, ◌∙◌, subst, arith, ◌≤◌, ◌<◌, ◌+◌, ℕ, T, Bool, true, false, ◌==◌, cond, List, [], ◌∷◌, length}
use Rattle.std.specs.Prelude.{Option, None, Some, nat_le, nat_lt, not}
use Rattle.std.proofs.lemmas.Bool.{eqb-true}
use Rattle.std.proofs.lemmas.Bool.Decides.{nat_tests}
use Rattle.std.specs.List.{filter}
use Rattle.ec_base.specs.Tables.{at}
use Rattle.ec_volume.specs.Image.{is_gone, new_object}
use Rattle.ec_volume.specs.declared.image.Image.TheVariants.{Gone}
use Rattle.ec_volume.specs.declared.image.Kind.TheVariants.{Dir}
use Rattle.ec_volume.specs.Volume as volume
use Rattle.ec_volume.specs.Volume.{Images, images}
use Rattle.ec_history.specs.Legal.{is_op_of}
use Rattle.ec_history.specs.Placing.{EachLine, begun, place, watch}
use Rattle.ec_durable.specs.Durable.{formatted}
use Rattle.ec_protocol.specs.Clerk.{has_issued}
use Rattle.ec_protocol.specs.declared.clerk.Clerk.{Clerk}
use Rattle.ec_protocol.specs.declared.script.Line.{Line}
use Rattle.ec_protocol.specs.declared.world.World.{World}
use Rattle.ec_coherence.specs.Events.{EventsAgree, shown_boot}
use Rattle.ec_lawful.specs.Headline.{AreLawful, IsGreatest, placed_on}
use Rattle.ec_lawful.proofs.PlacesServe.{fronts-there}
use Rattle.ec_lawful.specs.Steps.{HoldsIn}
use Rattle.ec_lawful.specs.Runs.{OfRun}
use Rattle.ec_quiet.specs.Settling.{IsSettled}
use Rattle.ec_machine_laws.specs.Answers.{answers_in, answers_to, asked_from, none_yet}
use Rattle.ec_machine_laws.specs.PlainLines.{IsPlain, asked_in, ids_from}
use Rattle.ec_machine_laws.proofs.Answering.{answers}
use Rattle.ec_complete.specs.Complete.{AreRising}
use Rattle.ec_complete.specs.SettledRuns.{HasRoom}
use Rattle.ec_complete.proofs.ForLines.Ids.{as-many, ids-rise}
use Rattle.ec_complete.proofs.ForLines.Plainness.{NoEnd, are-plain}
use Rattle.ec_complete.specs.Ids.{AreAbove, operations_in}
use Rattle.ec_complete.proofs.Counted.{tells-all}
use Rattle.ec_complete.proofs.IdsRising.{rising-answer}
use Rattle.ec_complete.proofs.Counting.{one-start, operations-told}
use Rattle.ec_complete.proofs.Folding.{behind_lines, ids_of, lines-are-calls, numbers-rise}
use Rattle.ec_base.proofs.Options.{none_some}
use Rattle.ec_base.proofs.Lists.{no-more}

above : (n : ℕ) (ids : List ℕ) → AreRising n ids → AreAbove n ids
above n [] a = tt
above n (id ∷ ids) a = (a.0, above id ids a.1)

-- The volume of a new disk has its root alone.
module _ (most : ℕ) where
  abbrev pub v : Images
  v = images (formatted most).volume

  pub root-alone : IsGreatest v 1
  root-alone = record { lives = tt; least = λ x l. go x (x == 1) refl l }
    where
      go : (x : ℕ) (b : Bool) → (x == 1) ≡ b → T (not (is_gone (v x))) → x ≤ 1
      go x true e l = omega (arith, eqb-true x 1 e)
      go x false e l = absurd (subst (λ b. T (not (is_gone (cond b (new_object Dir) Gone)))) e l)

  module _ (w : World) (holds : HoldsIn (OfRun v most) w) where
    -- its lines are lawful
    pub lawful : AreLawful (placed_on v 1) most w.shown
    lawful = go holds
      where
        go : HoldsIn (OfRun v most) w → AreLawful (placed_on v 1) most w.shown
        go (g, f, st) = subst (λ (o : Images). AreLawful (placed_on o 1) most w.shown) f.origin (subst (λ m. AreLawful (placed_on g.origin 1) m w.shown) f.most_is
            (subst (AreLawful (placed_on g.origin 1) g.durable.max_objects) (sym st.shown)
            (fronts-there g 1 f.whole.shows.fresh ((f.whole.all).0).images.origin (subst (λ (o : Images). (x : ℕ) → T (not (is_gone (o x))) → x ≤ 1) (sym f.origin) root-alone.least) g.durable.max_objects f.whole.shows.tells.fronts g.ghost.shown [] (no-more g.ghost.shown))))

    module _ (settled : EachLine IsSettled w.shown) (room : EachLine HasRoom w.shown) (ends : EachLine NoEnd w.shown) where
      pub plain : EachLine IsPlain w.shown
      plain = are-plain (placed_on v 1) most w.shown lawful.placed lawful.history settled room ends

      -- what a clerk's next operation is
      next-is : (c : ℕ) (k : Clerk) → at c w.clerks ≡ Some k → operations_in c (answers_in w.shown) + 1 ≡ k.log.next
      next-is c k there = go holds
        where
          go : HoldsIn (OfRun v most) w → operations_in c (answers_in w.shown) + 1 ≡ k.log.next
          go (g, f, st) = by (g.running c) refl (sym (st.clerks c) ∙ there)
            where
              ev : EventsAgree g
              ev = ((f.whole.all).0).events

              by : (o : Option ℕ) → g.running c ≡ o → elim o as (λ z. Option Clerk) [ None ↦ None | Some b ↦ g.clerks c b ] ≡ Some k → operations_in c (answers_in w.shown) + 1 ≡ k.log.next
              by None r e = absurd (none_some e)
              by (Some b) r e =
                  let first : shown_boot g c b ≡ 1 = sym (ev.starts c b r) ∙ ap (λ ss. (begun (watch c ss)).starts) (sym st.shown) ∙ (one-start w.shown plain c).starts in
                  let counted = ev.counts c b k r e in
                  let told : length (filter (is_op_of c 1) g.ghost.history) ≡ operations_in c (answers_in w.shown) =
                  ap (λ h. length (filter (is_op_of c 1) h)) (sym ev.placed ∙ ap place (sym st.shown)) ∙ operations-told c w.shown plain in
                  ap (λ n. n + 1) (sym told ∙ ap (λ n. length (filter (is_op_of c n) g.ghost.history)) (sym first)) ∙ counted

      -- the plain volume issued as many, with the numbers of lines as ids
      module _ (past : List Line) (asked : asked_in w.shown ≡ asked_from 1 past) where
        abbrev ids : List ℕ
        ids = ids_from (placed_on v 1) 1 w.shown

        answered : answers_in w.shown ≡ answers_to v none_yet ids (asked_from 1 past)
        answered = answers (placed_on v 1) most w.shown lawful.history plain ∙ ap (λ qs. answers_to v none_yet ids qs) asked

        others : AreAbove 1 (ids_of 1 1 past) × (length (ids_of 1 1 past) ≡ length (asked_from 1 past))
        others = numbers-rise 1 1 1 past (omega arith)

        long : length ids ≡ length (ids_of 1 1 past)
        long = as-many v 1 w.shown 1 ∙ ap length asked ∙ sym others.1

        issued : (formed : volume.WellFormed v) (c : ℕ) → operations_in c (answers_in w.shown) ≡ (behind_lines v 1 1 past none_yet).issued c
        issued formed c =
            ap (operations_in c) answered ∙ tells-all v ids (asked_from 1 past) c
            ∙ (rising-answer v 1 ids (ids_of 1 1 past) (asked_from 1 past) formed refl root-alone.least (omega arith) (above 1 ids (ids-rise v 1 w.shown 1 1 (omega arith))) others.0 long).1 c
            ∙ ap (λ s. s.issued c) (sym (lines-are-calls v 1 1 past none_yet))

        pub has-issued : (formed : volume.WellFormed v) (c n : ℕ) (k : Clerk) → at c w.clerks ≡ Some k → 1 ≤ n → n ≤ (behind_lines v 1 1 past none_yet).issued c → has_issued n k ≡ true
        has-issued formed c n k there one l = is-issued n k.log.next (below n (operations_in c (answers_in w.shown)) ((behind_lines v 1 1 past none_yet).issued c) k.log.next (next-is c k there) (issued formed c) l) one
          where
            below : (n ops issued next : ℕ) → ops + 1 ≡ next → ops ≡ issued → n ≤ issued → n < next
            below n ops issued next a b c = omega (arith, a, b, c)

            is-issued : (n next : ℕ) → n < next → 1 ≤ n → Rattle.std.specs.Prelude.◌&&◌ (nat_le 1 n) (nat_lt n next) ≡ true
            is-issued n next a b = grind (arith, nat_tests, a, b)
