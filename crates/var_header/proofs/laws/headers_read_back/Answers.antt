use Rattle.var_header.proofs.Headers.{HeadersReadBack-all}
use Rattle.var_header.proofs.laws.headers_read_back.Goals as goal

pub returns : goal.returns
returns c = HeadersReadBack-all
