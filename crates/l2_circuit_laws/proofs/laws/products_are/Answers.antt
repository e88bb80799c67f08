use Rattle.l2_circuit_laws.proofs.Products as products
use Rattle.l2_circuit_laws.proofs.laws.products_are.Goals as goal

pub returns : goal.returns
returns c = products.products_are
