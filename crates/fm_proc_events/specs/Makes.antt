-- The making of a channel.
-- Source: this profile.
use Rattle.std.specs.Prelude.{◌≡◌, ℕ, Some, List}
use Rattle.fm_net.specs.Machine.{New, Go}
use Rattle.fm_code.specs.declared.body.Body.{Body}
use Rattle.fm_proc_language.specs.Processes.{CodeProc, asks, made}

-- what the process asks for is a channel with so many writers, whose ports come to these words
pub record Makes (y : CodeProc) (next : ℕ) (words : List ℕ) (writers cost : ℕ) : Type 0 where
  pub body : Body
  pub is : y.body ≡ Some body
  pub asks_so : asks y ≡ Go (New y.next_channel writers) (λ c r. made y body next words writers cost c)
