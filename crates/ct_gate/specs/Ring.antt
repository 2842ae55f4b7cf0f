-- The ring that the ends of a front belong to.
use Rattle.std.specs.Global.{Global}
use denote.RawPtr.{Ptr}
use Rattle.rtrb.specs.Shared.{Names}
use Rattle.rtrb.specs.declared.producer.Producer.{Producer}
use Rattle.rtrb.specs.declared.consumer.Consumer.{Consumer}

-- identifies the ring of an end: the addresses of its words, its slots and its names, and its heap; two ends with equal names belong to one
-- ring
pub record RingName : Type 0 where
  pub words : Ptr
  pub slots : Ptr
  pub names : Names
  pub heap : Global

module _ {T P : Type 0} where
  -- the ring that the producer pushes into
  abbrev pub producer_ring : Producer T Global P → RingName
  producer_ring p = record { words = p.end.words; slots = p.end.slots; names = p.end.names; heap = p.end.heap }

  -- the ring that the consumer pops from
  abbrev pub consumer_ring : Consumer T Global P → RingName
  consumer_ring c = record { words = c.end.words; slots = c.end.slots; names = c.end.names; heap = c.end.heap }
