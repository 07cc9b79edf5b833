use Rattle.std.proofs.Common.{◌≡◌, ◌+◌, ◌≤◌, length, map, take}
use Rattle.ec_link.specs.Links.{added}
use Rattle.ec_outs.specs.Outs.{encoded, sends}
use Rattle.ec_outs.proofs.sending.send_resting.Given as goal

abbrev pub invariant-loop-out : goal.invariant-loop-out
invariant-loop-out g l =
    (l.sent ≡ length (sends (take l.out-index l.outs))) × (l.sent ≤ l.out-index)
    × (g.L.Link.got l.link ≡ added (g.L.Link.got l.fn.link) (map encoded (sends (take l.out-index l.outs))))
    × (g.L.Link.given l.link ≡ g.L.Link.given l.fn.link)
    × (g.L.Link.faults l.fn.link + g.L.Link.closes l.fn.link ≤ g.L.Link.faults l.link + g.L.Link.closes l.link)
