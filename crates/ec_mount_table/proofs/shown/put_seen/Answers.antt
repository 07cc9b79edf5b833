use Rattle.std.proofs.Common.{◌≡◌, ◌++◌, ◌∷◌, [], ◌∙◌, codes, length, ap, sym, subst}
use Rattle.std.specs.Fmt.{decimal}
use Rattle.std.proofs.lemmas.Bool.{ltb-true}
use Rattle.std.proofs.lemmas.List.{get_or_read}
use Rattle.ec_words.specs.OfText.Answers.{answered_text}
use Rattle.ec_mount_words.specs.OfRoute.Calls.{raised}
use Rattle.ec_mount_words.specs.OfRoute.Routes.{path_at}
use Rattle.ec_mount_table.specs.Shown.{seen_text}
use Rattle.ec_mount_table.proofs.Pieces.{on_ok, seen_piece}
use Rattle.ec_mount_table.proofs.shown.put_seen.Goals as goal

pub returns-in_ok-put_call-in-NoVolume : goal.returns-in_ok-put_call-in-NoVolume
returns-in_ok-put_call-in-NoVolume c =
    let row = c.args.row.now in
    let old = c.args.text.now.items in
    let mid = c.put_call-in-NoVolume.new.text.items in
    let new = c.put_word.new.text.items in
    let n = c.in-NoVolume.number in
    let why : c.deref.result.now ≡ codes "refused NoVolume " ++ decimal n = c.deref.ensures.value ∙ (c.in_ok-put_number-in-NoVolume.ensures ∙ (ap (λ k. c.in_ok-why-in-NoVolume.why.items ++ decimal k) c.from.ensures ∙ ap (λ l. l ++ decimal n) c.in_ok-why-in-NoVolume.ensures.items)) in
    on_ok c.put_word.result (new ≡ mid ++ c.deref.result.now ++ 10 ∷ []) (new ≡ old ++ seen_text c.args.table.now row c.args.met.now)
    (λ e. subst (λ m. new ≡ old ++ seen_text c.args.table.now row m) (sym c.in-NoVolume.is) (seen_piece row old mid new (codes "refused NoVolume " ++ decimal n) (e ∙ ap (λ w. mid ++ w ++ 10 ∷ []) why) c.in_ok-put_call-in-NoVolume.ensures))
    c.put_word.ensures

pub returns-in_ok-put_call-in-CrossVolume : goal.returns-in_ok-put_call-in-CrossVolume
returns-in_ok-put_call-in-CrossVolume c =
    let row = c.args.row.now in
    let old = c.args.text.now.items in
    let mid = c.put_call-in-CrossVolume.new.text.items in
    let new = c.put_word-in-CrossVolume.new.text.items in
    on_ok c.put_word-in-CrossVolume.result (new ≡ mid ++ codes "refused CrossVolume" ++ 10 ∷ []) (new ≡ old ++ seen_text c.args.table.now row c.args.met.now)
    (λ e. subst (λ m. new ≡ old ++ seen_text c.args.table.now row m) (sym c.in-CrossVolume.is) (seen_piece row old mid new (codes "refused CrossVolume") e c.in_ok-put_call-in-CrossVolume.ensures))
    c.put_word-in-CrossVolume.ensures

pub returns-in_ok-put_call-in-To : goal.returns-in_ok-put_call-in-To
returns-in_ok-put_call-in-To c =
    let table = c.args.table.now in
    let row = c.args.row.now in
    let old = c.args.text.now.items in
    let mid = c.put_call.new.text.items in
    let new = c.put_raised.new.text.items in
    let place = c.in-To.place in
    let reply = c.in-To.reply in
    let path = c.in-Some.path.now in
    let path_is : path ≡ path_at table place = get_or_read table place path (ltb-true place (length table) (sym c.in-Some.ensures.lookup.0)) c.in-Some.ensures.lookup.1 [] in
    on_ok c.put_raised.result (new ≡ mid ++ answered_text (raised (length path) reply.0) reply.1 ++ 10 ∷ []) (new ≡ old ++ seen_text table row c.args.met.now)
    (λ e. subst (λ m. new ≡ old ++ seen_text table row m) (sym c.in-To.is)
    (seen_piece row old mid new (answered_text (raised (length (path_at table place)) reply.0) reply.1) (e ∙ ap (λ p. mid ++ answered_text (raised (length p) reply.0) reply.1 ++ 10 ∷ []) path_is) c.in_ok-put_call-in-To.ensures))
    c.put_raised.ensures
