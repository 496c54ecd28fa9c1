-- A language whose processes carry a mark that tells nothing: it steps as the one without. The smallest
-- pair of languages that correspond.
-- Source: this profile.
use Rattle.std.specs.Prelude.{map}
use Rattle.fm_net.specs.Machine.{Reply, Onward, Ask, Stop, Go}
use Rattle.fm_net.specs.Language.{Language}

module _ {Proc M : Type 0} where
  abbrev pub unmarked : Proc × M → Proc
  unmarked y = y.0

  abbrev pub reply_unmarked : Reply (Proc × M) → Reply Proc
  reply_unmarked u = record { message = u.message; exceeds = u.exceeds; waits = u.waits; children = map unmarked u.children }

  -- children have the mark of their parent
  abbrev pub onward_marked : M → Onward Proc → Onward (Proc × M)
  onward_marked m o = record { self = (o.self, m); block = o.block; starts = map (λ x. (x, m)) o.starts; drops = o.drops; cost = o.cost }

  abbrev pub ask_marked : M → Ask Proc → Ask (Proc × M)
  ask_marked m Stop = Stop
  ask_marked m (Go need f) = Go need (λ c u. onward_marked m (f c (reply_unmarked u)))

  abbrev pub marked : Language Proc → Language (Proc × M)
  marked language = record {
    ask = λ y. ask_marked y.1 (language.ask y.0);
    has_ended = λ y. language.has_ended y.0;
    emptied = λ y. (language.emptied y.0, y.1);
    held = λ y. language.held y.0;
    next_block = λ y. language.next_block y.0;
    next_channel = λ y. language.next_channel y.0;
  }
