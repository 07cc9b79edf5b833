-- Steps that show one line.
use Rattle.std.proofs.Common.{◌≡◌, ◌++◌, ◌∷◌, [], List, None, Result, Ok, Err, sym, ap, ◌∙◌}
use Rattle.std.specs.Prelude.{OnOk}
use Rattle.ec_history.specs.declared.shown.Shown.{Shown}
use Rattle.ec_protocol.specs.World.{moving, show_line}
use Rattle.ec_protocol.specs.declared.world.World.{World as State}
use Rattle.ec_lease_machine.specs.Leases.{LeaseMoving, moved}
use Rattle.ec_lease_machine.specs.declared.world.LeaseFault.{LeaseFault}
use Rattle.ec_lease_machine.specs.declared.world.LeaseShown.{LeaseShown}
use Rattle.ec_lease_machine.specs.declared.world.LeaseShown.TheVariants.{Line}
use Rattle.ec_lease_machine.specs.OfBook.Book.{Booked, with_book}
use Rattle.ec_world.specs.Worlds as worlds
use Rattle.ec_lease.specs.Worlds.{under_way}
use Rattle.ec_lease.specs.declared.world.LeaseWorld.{LeaseWorld}

one_line : (s line : Shown) (w : State) (b : Booked) (old : List LeaseShown) (y : LeaseWorld) → line ≡ s → worlds.view_of y.world ≡ (show_line s (moving w)).world → y.book ≡ b → old ≡ [] → y.piece.items ≡ old ++ Line line ∷ [] → moved (show_line s (moving w)) (with_book b w) ≡ under_way y
one_line s line w b old y is world book fresh piece =
    let to : State → Booked → List LeaseShown → LeaseMoving = λ v b ls. record { world = with_book b v; shown = ls; fault = None } in
    ap (to (show_line s (moving w)).world b) (sym (piece ∙ ap (λ ls. ls ++ Line line ∷ []) fresh ∙ ap (λ l. Line l ∷ []) is))
    ∙ ap (λ v. to v b y.piece.items) (sym world)
    ∙ ap (λ b. to (worlds.view_of y.world) b y.piece.items) (sym book)

pub shows_one : {A : Type 0} (r : Result A LeaseFault) (s line : Shown) (w : State) (b : Booked) (old : List LeaseShown) (y : LeaseWorld) → line ≡ s → worlds.view_of y.world ≡ (show_line s (moving w)).world → y.book ≡ b → old ≡ [] → OnOk r (y.piece.items ≡ old ++ Line line ∷ [])
    → OnOk r (moved (show_line s (moving w)) (with_book b w) ≡ under_way y)
shows_one (Ok a) s line w b old y is world book fresh piece = one_line s line w b old y is world book fresh piece
shows_one (Err f) s line w b old y is world book fresh piece = tt
