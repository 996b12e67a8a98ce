use Rattle.tip_words.proofs.Chains.{first_is}
use Rattle.tip_words.proofs.reading.order_of.Goals as goal

-- whoever asks nobody does something here
pub order_to_do-requires : goal.order_to_do-requires
order_to_do-requires c = first_is _ _ c.requires (c.order_to_ask.ensures.none c.in-None.is)
