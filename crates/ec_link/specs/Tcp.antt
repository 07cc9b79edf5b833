-- A link over TCP.
use Rattle.std.specs.Prelude.{◌≡◌, ◌==◌, ◌&&◌, Bool, [], length}
use Rattle.ec_link.specs.declared.tcp.TcpLink.{TcpLink}
use Rattle.ec_link.specs.Happenings.{faults_in}
use Rattle.ec_link.specs.HappeningBodies.{closes_in, given_in, got_in}

-- the socket has taken all that the link got, and nothing rests
abbrev pub has_sent_all : TcpLink → Bool
has_sent_all link = (length link.unsent.items == 0) && (length link.rests.frames.items == 0)

-- nothing has happened at this end, and it holds no bytes
pub record IsNewOver (link : TcpLink) : Type 0 where
  pub faults : faults_in link.happened ≡ 0
  pub closes : closes_in link.happened ≡ 0
  pub given : given_in link.happened ≡ []
  pub got : got_in link.happened ≡ []
  pub held : link.frames.left ≡ []
