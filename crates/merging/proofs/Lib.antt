mod Laws
mod Loop
