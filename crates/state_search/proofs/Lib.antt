mod Sets
mod Growing
