-- The service is given; then as the numbers of a request.
use Rattle.message.proofs.RangeLaws.{numbers-ranged}
use Rattle.writer.proofs.put_elements.Goals as goal

pub put_numbers-requires : goal.put_numbers-requires
put_numbers-requires c = let r = numbers-ranged _ _ c.in-Some.n (rw c.in-Some.is at c.requires.0.0) (rw c.in-Some.is at c.requires.0.1) in ((r.most_a, (r.most_b, r.most_service)), rw c.in-Some.is at c.requires.1)
