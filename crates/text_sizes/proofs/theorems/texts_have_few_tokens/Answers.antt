use Rattle.text_sizes.proofs.Tokens.{few_tokens, most_tokens}
use Rattle.text_sizes.proofs.theorems.texts_have_few_tokens.Goals as goal

pub returns-clause-bytes : goal.returns-clause-bytes
returns-clause-bytes c = few_tokens

pub returns-clause-most : goal.returns-clause-most
returns-clause-most c = most_tokens
