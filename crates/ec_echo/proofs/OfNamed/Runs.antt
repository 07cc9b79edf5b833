-- What holds of a drill's lines beside its script.
use Rattle.std.proofs.Common.{◌≡◌, ◌==◌, ◌⊎◌, ℕ, T, List, [], ◌∷◌, ◌++◌, length, refl, sym, subst, ◌∙◌, inl, inr, arith}
use Rattle.std.specs.List.{list_any}
use Rattle.std.proofs.Math.Logic.{∥∥₁_map, ∥∥₁_map₂}
use Rattle.ec_base.specs.Outside.{Rose}
use Rattle.ec_history.specs.History.{Base, Each}
use Rattle.ec_history.specs.declared.shown.Shown.{Shown}
use Rattle.ec_volume.specs.Volume.{images}
use Rattle.ec_protocol.specs.Drill.{Read}
use Rattle.ec_lawful.specs.Drills.{lines_in}
use Rattle.ec_lawful.specs.Headline.{placed_on}
use Rattle.ec_drill.specs.OfPromise.OfRooms.DrillRooms.{AreWithinRoom}
use Rattle.ec_drill.proofs.OfPromise.OfRooms.Rooms.{front-within}
use Rattle.ec_drill.specs.OfPromise.OfSpent.SpentDrills.{AllSpendFew}
use Rattle.ec_complete.specs.Complete.{IsComplete, IsFaultlessRead}
use Rattle.ec_complete.specs.Pieces.{ArePiecesBehind}
use Rattle.ec_complete.specs.PlainScripts.{IsPlainScript}
use Rattle.ec_drill.specs.OfPromise.Behind.{AreBehindOn}
use Rattle.ec_drill.specs.OfPromise.PlainEnds.{EndsPlainly}
use Rattle.ec_drill.specs.OfPromise.LawfulEnds.{AreLawfulOn, AreStoredOn}
use Rattle.ec_drill.proofs.OfPromise.Completes.{drills-complete}
use Rattle.ec_drill.proofs.OfPromise.Lawful.{drills-lawful}
use Rattle.ec_drill.specs.Drill.{Outside, Drilled, IsGiven, IsToldAll}
use Rattle.ec_drill.specs.declared.status.Status.{Status}
use Rattle.ec_drill.specs.declared.status.Status.TheVariants as own
use Rattle.ec_echo.specs.Statuses.{code, of_drill}
use Rattle.ec_echo.specs.OfNamed.Forms.{outside}
use Rattle.ec_echo.specs.OfNamed.Runs.{AreBehind, AreLawfulTogether, AreOwn, AreStored, Causes, Complete, EndAsAsked, IsUncut, OfRun, OwnCalls, Sessions, Spent, Stores, Together, WriteBehind}
use Rattle.ec_drill.specs.Seen.{Stream, Store}
use Rattle.ec_echo.specs.OfNamed.Seen.{GivesAsBefore, IsNew}
use Rattle.ec_echo.specs.OfNamed.Told.{HoldsOfLines, WroteNone}
use Rattle.ec_echo.proofs.OfNamed.Bytes.{one-greatest}
use Rattle.ec_echo.proofs.OfNamed.Facts.{Facts}
use Rattle.ec_echo.proofs.OfNamed.Lines.{held}

module _ (most result : ℕ) (source sink : Stream) (store : Store) where
  abbrev w : Outside
  w = outside source sink store

  abbrev base-of : (f : Facts most result source sink store) → AreLawfulOn f.reads f.state f.pieces f.shown → Base
  base-of f a = placed_on (images f.state.volume) a.top

  of-run : (P : List Read → Base → ℕ → List Shown → List Shown → Type 0) → ((f : Facts most result source sink store) → IsToldAll w f.reads → ∥ HoldsOfLines most result sink store (P f.reads) ∥₁)
      → Facts most result source sink store ⊎ WroteNone result sink → OfRun P result source sink store most
  of-run P from (inl f) = inl (record { reads = f.reads; gave = f.given; holds = from f })
  of-run P from (inr wrote) = inr wrote

  own-of : (f : Facts most result source sink store) (a : AreLawfulOn f.reads f.state f.pieces f.shown) → AreOwn f.reads (base-of f a) f.state.max_objects a.told a.last
  own-of f a = record { lines = a.lines; front = a.front; own = a.own_calls }

  asked-of : (f : Facts most result source sink store) (a : AreLawfulOn f.reads f.state f.pieces f.shown) → EndAsAsked f.reads (base-of f a) f.state.max_objects a.told a.last
  asked-of f a = record { own = record { lines = a.lines; front = a.front; own = a.own_calls }; pieces = f.pieces; in_pieces = a.in_pieces; counted = a.counted; numbered = a.numbered; ends = a.ends; spared = a.spared }

  pub own-calls : Facts most result source sink store ⊎ WroteNone result sink → OwnCalls result source sink store most
  own-calls = of-run AreOwn (λ f told. ∥∥₁_map (f.lawful told) (λ a. held most result source sink store (AreOwn f.reads) f a (own-of f a)))

  pub end-as-asked : Facts most result source sink store ⊎ WroteNone result sink → Sessions result source sink store most
  end-as-asked = of-run EndAsAsked (λ f told. ∥∥₁_map (f.lawful told) (λ a. held most result source sink store (EndAsAsked f.reads) f a (asked-of f a)))

  together-of : (f : Facts most result source sink store) (a : AreLawfulOn f.reads f.state f.pieces f.shown) → AreWithinRoom f.state.max_objects f.shown → AreLawfulTogether f.reads (base-of f a) f.state.max_objects a.told a.last
  together-of f a room = record { fronts = a.fronts; room = front-within f.state.max_objects a.told a.last (subst (AreWithinRoom f.state.max_objects) a.written room); ends = asked-of f a }

  pub together : Facts most result source sink store ⊎ WroteNone result sink → Together result source sink store most
  together = of-run AreLawfulTogether (λ f told. ∥∥₁_map₂ (f.lawful told) (f.room told) (λ a room. held most result source sink store (AreLawfulTogether f.reads) f a (together-of f a room)))

  pub spends-few : Facts most result source sink store ⊎ WroteNone result sink → Spent result source sink store most
  spends-few = of-run (λ reads base limit lines why. AllSpendFew (lines ++ why)) (λ f told. ∥∥₁_map (f.lawful told) (λ a.
      held most result source sink store (λ base limit lines why. AllSpendFew (lines ++ why)) f a (subst AllSpendFew a.written (f.spent told))))

  -- Plain scripts.

  abbrev Plain : List Read → Base → ℕ → List Shown → List Shown → Type 0
  Plain reads base limit told why = IsPlainScript most reads → ∥ (result ≡ 0) × IsComplete base.volume (lines_in reads) (told ++ why) 0 ∥₁

  plain-answers : IsUncut result → IsNew store → (f : Facts most result source sink store) (a : AreLawfulOn f.reads f.state f.pieces f.shown) → Plain f.reads (placed_on (images f.state.volume) a.top) f.state.max_objects a.told a.last
  plain-answers uncut new f a is = ∥∥₁_map (f.plain uncut (record { tells = new.0; empty = new.1 }) is) (λ c.
      (c.0, subst (λ (ls : List Shown). IsComplete (images f.state.volume) (lines_in f.reads) ls 0) a.written (subst (λ (k : ℕ). IsComplete (images f.state.volume) (lines_in f.reads) f.shown k) c.0 c.1)))

  plainly-ends : (st : Status) → result ≡ code (of_drill st) → (d : Drilled most st w) → EndsPlainly most st w d → (result ≡ 4 → ⊥) → IsUncut result → result ≡ 0
  plainly-ends own.Done e d is source uncut = e
  plainly-ends own.SourceFault e d is source uncut = absurd (source e)
  plainly-ends own.SinkFault e d is source uncut = absurd (uncut.0 e)
  plainly-ends own.DiskFault e d is source uncut = absurd (uncut.1 e)
  plainly-ends own.NoMemory e d is source uncut = absurd (uncut.2 e)
  plainly-ends own.BadLine e d is source uncut = absurd is
  plainly-ends own.Limit e d is source uncut = absurd is
  plainly-ends own.Spent e d is source uncut = absurd is
  plainly-ends own.BadDisk e d is source uncut = absurd is
  plainly-ends own.Usage e d is source uncut = absurd is

  pub complete : (st : Status) → result ≡ code (of_drill st) → Drilled most st w → Facts most result source sink store ⊎ WroteNone result sink → Complete result source sink store most
  complete st e d known = record {
    answers = λ uncut new. of-run Plain (λ f told. ∥∥₁_map (f.lawful told) (λ a. held most result source sink store (Plain f.reads) f a (plain-answers uncut new f a))) known;
    ends_well = λ new given. plainly-ends st e d (drills-complete most st w d (drills-lawful most st w d) (record { tells = new.0; empty = new.1 }) given);
  }

  -- Write-behind.

  abbrev Behind : List Read → Base → ℕ → List Shown → List Shown → Type 0
  Behind reads base limit told why = store.tells → Each IsFaultlessRead reads → ∥ AreBehind reads base told ∥₁

  lies-behind : (f : Facts most result source sink store) (a : AreLawfulOn f.reads f.state f.pieces f.shown) → Behind f.reads (placed_on (images f.state.volume) a.top) f.state.max_objects a.told a.last
  lies-behind f a tells faultless = ∥∥₁_map (f.behind tells faultless) (λ (b : AreBehindOn f.reads f.state f.pieces f.shown). record {
    pieces = f.pieces;
    in_pieces = a.in_pieces;
    numbered = b.numbered;
    behind = subst (λ (top : ℕ). ArePiecesBehind (placed_on (images f.state.volume) top) (lines_in f.reads) [] f.pieces) (one-greatest (images f.state.volume) b.top a.top b.greatest a.greatest) b.behind;
  })

  pub writes-behind : Facts most result source sink store ⊎ WroteNone result sink → WriteBehind result source sink store most
  writes-behind = of-run Behind (λ f told. ∥∥₁_map (f.lawful told) (λ a. held most result source sink store (Behind f.reads) f a (lies-behind f a)))

  -- The disk.

  stored-on : (uncut : IsUncut result) (f : Facts most result source sink store) (s : AreStoredOn f.reads f.state f.end f.pieces f.shown) → HoldsOfLines most result sink store (AreStored store f.reads)
  stored-on uncut f s = held most result source sink store (AreStored store f.reads) f (s.whole).lawful (record {
    before = f.state;
    stood = f.opens.stands;
    volume = refl;
    state = f.end;
    stands = f.stands uncut;
    formed = s.formed;
    stored = s.stored;
  })

  pub stored : Facts most result source sink store ⊎ WroteNone result sink → Stores result source sink store most
  stored known uncut unspent = of-run (AreStored store) (λ f told. ∥∥₁_map (f.stored uncut unspent told) (stored-on uncut f)) known

  -- Causes.

  abbrev IsStatus : ℕ → Type 0
  IsStatus number = T (list_any (λ n. n == number) (0 ∷ 3 ∷ 4 ∷ 5 ∷ 6 ∷ 7 ∷ 9 ∷ 11 ∷ 15 ∷ []))

  causes-of : (number : ℕ) → IsStatus number → result ≡ number → (number ≡ 4 → Rose source.faults source.faults_after × GivesAsBefore store) → (number ≡ 5 → Rose sink.faults sink.faults_after) → (number ≡ 6 → Rose store.counts.faults store.counts_after.faults)
      → (number ≡ 7 → store.tells → (length store.disk.gives ≡ 0 → ⊥) × GivesAsBefore store) → (number ≡ 11 → GivesAsBefore store ⊎ ((reads : List Read) × IsGiven source reads)) → Causes result source sink store most
  causes-of number is_one e four five six seven eleven = record {
    one_of = subst IsStatus (sym e) is_one;
    source_failed = λ is. four (sym e ∙ is);
    sink_failed = λ is. five (sym e ∙ is);
    disk_failed = λ is. six (sym e ∙ is);
    disk_bad = λ is. seven (sym e ∙ is);
    over = λ is. eleven (sym e ∙ is);
  }

  pub cause : (st : Status) → result ≡ code (of_drill st) → Drilled most st w → Causes result source sink store most
  cause own.Done e d = causes-of 0 tt e (λ x. absurd (omega (arith, x))) (λ x. absurd (omega (arith, x))) (λ x. absurd (omega (arith, x))) (λ x. absurd (omega (arith, x))) (λ x. absurd (omega (arith, x)))
  cause own.BadLine e d = causes-of 3 tt e (λ x. absurd (omega (arith, x))) (λ x. absurd (omega (arith, x))) (λ x. absurd (omega (arith, x))) (λ x. absurd (omega (arith, x))) (λ x. absurd (omega (arith, x)))
  cause own.Spent e d = causes-of 15 tt e (λ x. absurd (omega (arith, x))) (λ x. absurd (omega (arith, x))) (λ x. absurd (omega (arith, x))) (λ x. absurd (omega (arith, x))) (λ x. absurd (omega (arith, x)))
  cause own.NoMemory e d = causes-of 9 tt e (λ x. absurd (omega (arith, x))) (λ x. absurd (omega (arith, x))) (λ x. absurd (omega (arith, x))) (λ x. absurd (omega (arith, x))) (λ x. absurd (omega (arith, x)))
  cause own.Usage e d = absurd d
  cause own.SourceFault e d = causes-of 4 tt e (λ x. (d.0, (d.2).gives)) (λ x. absurd (omega (arith, x))) (λ x. absurd (omega (arith, x))) (λ x. absurd (omega (arith, x))) (λ x. absurd (omega (arith, x)))
  cause own.SinkFault e d = causes-of 5 tt e (λ x. absurd (omega (arith, x))) (λ x. d.0) (λ x. absurd (omega (arith, x))) (λ x. absurd (omega (arith, x))) (λ x. absurd (omega (arith, x)))
  cause own.DiskFault e d = causes-of 6 tt e (λ x. absurd (omega (arith, x))) (λ x. absurd (omega (arith, x))) (λ x. d.0) (λ x. absurd (omega (arith, x))) (λ x. absurd (omega (arith, x)))
  cause own.BadDisk e d = causes-of 7 tt e (λ x. absurd (omega (arith, x))) (λ x. absurd (omega (arith, x))) (λ x. absurd (omega (arith, x))) (λ x tells. ((d.3 tells).0, (d.3 tells).2)) (λ x. absurd (omega (arith, x)))
  cause own.Limit e (inl over) = causes-of 11 tt e (λ x. absurd (omega (arith, x))) (λ x. absurd (omega (arith, x))) (λ x. absurd (omega (arith, x))) (λ x. absurd (omega (arith, x))) (λ x. inl (over.3).gives)
  cause own.Limit e (inr r) = causes-of 11 tt e (λ x. absurd (omega (arith, x))) (λ x. absurd (omega (arith, x))) (λ x. absurd (omega (arith, x))) (λ x. absurd (omega (arith, x))) (λ x. inr (r.reads, r.given))
