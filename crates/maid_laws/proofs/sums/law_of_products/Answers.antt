use Rattle.maid_laws.proofs.TotalLaws.{products_law, any_order_law}
use Rattle.maid_laws.proofs.sums.law_of_products.Goals as goal

pub returns : goal.returns
returns c = record { products = products_law; order = any_order_law }
